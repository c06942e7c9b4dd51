-- What is sent outward hides the inside: the frame by which an error is passed on, and the gateway's own frames.
use Rattle.std.proofs.Common.{◌≡◌, ◌⊎◌, inl, inr, ℕ, ◌-◌, ◌≤◌, ◌<◌, ◌^◌, Bool, true, false, cond, Option, Some, None, List, [], ◌∷◌, ◌++◌, map, length, take, drop, refl, sym, ap, subst, ◌∙◌, arith, length-append, length-drop, take-append-drop}
use Rattle.std.specs.List.{AllByRecursion}
use Rattle.std.proofs.lemmas.List.{append_cancel_left, drop-append-le, length-take-le, take-append-le, take_all}
use Rattle.std.proofs.lemmas.Bool.{cases_lt}
use Rattle.std.proofs.Math.Seq.{drop-append_seam}
use Rattle.addresses.specs.declared.ethernet.Mac.{Mac}
use Rattle.addresses.specs.declared.internet.Ip.{Ip}
use Rattle.addresses.specs.declared.transport.Port.{Port}
use Rattle.nat_types.specs.declared.gateways.Side.{Side}
use Rattle.nat_types.specs.declared.gateways.Side.TheVariants.{Inside, Outside}
use Rattle.nat_types.specs.declared.pairs.Pair.{Pair}
use Rattle.frames.specs.Frame.{frame_of}
use Rattle.icmp.specs.declared.packets.ErrorFlow.{ErrorFlow}
use Rattle.icmp.specs.Error.{inside_of}
use Rattle.icmp.specs.Packet.{IsErrorPacket}
use Rattle.ipv4.specs.declared.flows.Flow.{Flow}
use Rattle.ipv4.specs.Header.{Header, IsIpv4, header_of, payload_of, is_unbroken}
use Rattle.rewrite.specs.PassedOn.{error_outward_of, own_flow, passed_on}
use Rattle.rewrite.specs.Translated.{header_with}
use Rattle.packet_rules.specs.declared.networks.Networks.{Networks}
use Rattle.packet_rules.specs.declared.translations.Translation.{Translation}
use Rattle.packet_rules.specs.declared.translations.Translation.TheVariants.{Outward, Inward, Hairpin}
use Rattle.packet_rules.specs.Errors.{HidesInside, passed_by, passed_frame}
use Rattle.packet_rules.specs.Flows.{error_flow_in}
use Rattle.packet_rules.specs.Frames.{exit_mac, hop_of}
use Rattle.packet_rules.specs.declared.complaints.Complaint.{Complaint}
use Rattle.packet_rules.specs.declared.complaints.Complaint.TheVariants.{TooBig}
use Rattle.packet_rules.specs.declared.reasons.Reason.{Reason}
use Rattle.packet_rules.specs.declared.reasons.Reason.TheVariants.{ShortFrame, NotMine, BadHeader, BadLength, BadHeaderSum, Fragment, TtlOver, NotUdpTcp, BadTransport, BadArp, BadAdvert, NotUp, NoBinding, NoPort, CannotWait, BadDatagram, OldWord, HostLimit, TooLong, TooMany, SourceRoute}
use Rattle.packet_rules.specs.Asked.{IsAskable, is_asked}
use Rattle.packet_rules.specs.Networks.{IsPlaced, IsWired, may_answer, mtu_of}
use Rattle.packet_rules.specs.Own.{HidesHosts, answer_frame, complaint_about, complaint_frame, complaint_of, is_told}
use Rattle.packet_rules.specs.Steps.{IsPassable}
use Rattle.output.specs.Output.{Sent}
use Rattle.spec_step.specs.Machine.{AreBytes}
use Rattle.spec_step.specs.OwnAnswers.{Answers, Complains, IsOwnOf, IsSaid, OwnFrame, Purpose, ShowsNothing}
use Rattle.spec_step.specs.Parts.{sender_in}
use Rattle.spec_step.specs.PassedOn.{ArePassedOn, HidesAllInside, IsPassedOn, TellsAll}
use Rattle.spec_step.specs.Shown.{GatewayAndOutput, Shown}
use Rattle.spec_step.specs.Truly.{IsSetUp, AtHand, Sending, known_of}
use Rattle.spec_step.specs.Verdict.{exit_by, hop_back}
use Rattle.spec_step.proofs.Own.{told-is}
use Rattle.spec_step.proofs.Sending.{back-six, near-mac, next-six}
use Rattle.spec_step.proofs.Telling.{at_hand}

-- the contract by which an error passed on outward hides inside addresses
pub record Hides : Type 0 where
  pub source : (packet : List ℕ) (from : Ip) (port : Port) → IsIpv4 packet → from.0 < 2 ^ 32 → (header_of (error_outward_of from port packet)).source ≡ from.0
  pub inside : (packet : List ℕ) (from : Ip) (port : Port) → IsIpv4 packet → IsErrorPacket packet → from.0 < 2 ^ 32
      → (header_of (inside_of (payload_of (error_outward_of from port packet)))).destination ≡ from.0

-- ---- bytes that are cut after a packet

-- the first 20 bytes spell the header
header-front : (xs ys : List ℕ) → 20 ≤ length xs → header_of (xs ++ ys) ≡ header_of xs
header-front (b0 ∷ b1 ∷ b2 ∷ b3 ∷ b4 ∷ b5 ∷ b6 ∷ b7 ∷ b8 ∷ b9 ∷ b10 ∷ b11 ∷ b12 ∷ b13 ∷ b14 ∷ b15 ∷ b16 ∷ b17 ∷ b18 ∷ b19 ∷ xs) ys long = refl
header-front _ ys long = absurd (omega arith)

payload-front : (xs ys : List ℕ) → 20 ≤ length xs → (header_of xs).total_length ≤ length xs → (header_of xs).header_length ≤ length xs → payload_of (xs ++ ys) ≡ payload_of xs
payload-front xs ys long there short =
    let t = (header_of xs).total_length in
    let h = (header_of xs).header_length in
    ap (λ (a : Header). take (a.total_length - a.header_length) (drop a.header_length (xs ++ ys))) (header-front xs ys long)
    ∙ ap (take (t - h)) (drop-append-le h xs ys short)
    ∙ take-append-le (t - h) (drop h xs) ys (omega (arith, length-drop h xs, there))

-- the first bytes of a list are a packet, and another list is exactly those
record IsCut (xs ys : List ℕ) : Type 0 where
  header : header_of xs ≡ header_of ys
  payload : payload_of xs ≡ payload_of ys

cut-front : (xs ys zs : List ℕ) → xs ++ ys ≡ zs → 20 ≤ length xs → (header_of zs).total_length ≤ length xs → (header_of zs).header_length ≤ length xs → IsCut xs zs
cut-front xs ys zs same long there short =
    let front : header_of zs ≡ header_of xs = ap header_of (sym same) ∙ header-front xs ys long in
    let total : (header_of zs).total_length ≡ (header_of xs).total_length = ap (λ (a : Header). a.total_length) front in
    let holds : (header_of zs).header_length ≡ (header_of xs).header_length = ap (λ (a : Header). a.header_length) front in
    record {
      header = sym front;
      payload = sym (ap payload_of (sym same) ∙ payload-front xs ys long (omega (arith, total, there)) (omega (arith, holds, short)));
    }

cut-off : (n : ℕ) (xs : List ℕ) → 20 ≤ n → 20 ≤ length xs → (header_of xs).total_length ≤ n → (header_of xs).header_length ≤ n → IsCut (take n xs) xs
cut-off n xs far long there short = at (cases_lt n (length xs))
  where
    at : (n < length xs) ⊎ (length xs ≤ n) → IsCut (take n xs) xs
    at (inl within) =
        let size : length (take n xs) ≡ n = length-take-le n xs (omega (arith, within)) in
        cut-front (take n xs) (drop n xs) xs (take-append-drop n xs) (omega (arith, size, far)) (omega (arith, size, there)) (omega (arith, size, short))
    at (inr few) = subst (λ (ys : List ℕ). IsCut ys xs) (sym (take_all n xs few)) (record { header = refl; payload = refl })

-- ---- an error that was passed on keeps its lengths

own-total : (f : Flow) (header rest more : List ℕ) → 20 ≤ length header → (header_of ((header_with f header ++ rest) ++ more)).total_length ≡ (header_of header).total_length
own-total f (b0 ∷ b1 ∷ b2 ∷ b3 ∷ b4 ∷ b5 ∷ b6 ∷ b7 ∷ b8 ∷ b9 ∷ b10 ∷ b11 ∷ b12 ∷ b13 ∷ b14 ∷ b15 ∷ b16 ∷ b17 ∷ b18 ∷ b19 ∷ options) rest more long = refl
own-total f _ rest more long = absurd (omega arith)

own-holds : (f : Flow) (header rest more : List ℕ) → 20 ≤ length header → (header_of ((header_with f header ++ rest) ++ more)).header_length ≡ (header_of header).header_length
own-holds f (b0 ∷ b1 ∷ b2 ∷ b3 ∷ b4 ∷ b5 ∷ b6 ∷ b7 ∷ b8 ∷ b9 ∷ b10 ∷ b11 ∷ b12 ∷ b13 ∷ b14 ∷ b15 ∷ b16 ∷ b17 ∷ b18 ∷ b19 ∷ options) rest more long = refl
own-holds f _ rest more long = absurd (omega arith)

own-long : (f : Flow) (header rest more : List ℕ) → 20 ≤ length header → 20 ≤ length ((header_with f header ++ rest) ++ more)
own-long f (b0 ∷ b1 ∷ b2 ∷ b3 ∷ b4 ∷ b5 ∷ b6 ∷ b7 ∷ b8 ∷ b9 ∷ b10 ∷ b11 ∷ b12 ∷ b13 ∷ b14 ∷ b15 ∷ b16 ∷ b17 ∷ b18 ∷ b19 ∷ options) rest more long = omega arith
own-long f _ rest more long = absurd (omega arith)

-- an error passed on begins with the packet that its total length says
passed-cut : (new : ErrorFlow) (packet : List ℕ) → IsIpv4 packet → IsCut (take (header_of packet).total_length (passed_on new packet)) (passed_on new packet)
passed-cut new packet ip =
    let h = (header_of packet).header_length in
    let t = (header_of packet).total_length in
    let front = take h packet in
    let size : length front ≡ h = length-take-le h packet (omega (arith, ip.there, ip.holds_header)) in
    let long : 20 ≤ length front = omega (arith, size, ip.holds_fields) in
    let same : header_of packet ≡ header_of front = ap header_of (sym (take-append-drop h packet)) ∙ header-front front (drop h packet) long in
    let total : (header_of (passed_on new packet)).total_length ≡ t = own-total (own_flow new) front _ _ long ∙ ap (λ (a : Header). a.total_length) (sym same) in
    let holds : (header_of (passed_on new packet)).header_length ≡ h = own-holds (own_flow new) front _ _ long ∙ ap (λ (a : Header). a.header_length) (sym same) in
    cut-off t (passed_on new packet) (omega (arith, ip.holds_fields, ip.holds_header)) (own-long (own_flow new) front _ _ long) (omega (arith, total)) (omega (arith, holds, ip.holds_header))

-- ---- the frame

body-behind : (dst src body : List ℕ) (high low : ℕ) → length dst ≡ 6 → length src ≡ 6 → drop 14 (((dst ++ src) ++ (high ∷ low ∷ [])) ++ body) ≡ body
body-behind dst src body high low six six2 =
    let header = (dst ++ src) ++ (high ∷ low ∷ []) in
    let size : length header ≡ 14 = omega (arith, length-append dst src, length-append (dst ++ src) (high ∷ low ∷ []), six, six2) in
    ap (λ (n : ℕ). drop n (header ++ body)) (sym size) ∙ drop-append_seam header body

passed-body : (networks : Networks) (by : Translation) (next : Mac) (bytes : List ℕ) → length next.0 ≡ 6 → length (exit_mac networks by).0 ≡ 6
    → (frame_of (passed_frame networks by next bytes)).body ≡ take (header_of (frame_of bytes).body).total_length (passed_by networks by (frame_of bytes).body)
unfolding passed_frame
passed-body networks by next bytes six own = body-behind next.0 (exit_mac networks by).0 (take (header_of (frame_of bytes).body).total_length (passed_by networks by (frame_of bytes).body)) 8 0 six own

outward-cut : (networks : Networks) (p : Pair) (packet : List ℕ) → IsIpv4 packet
    → IsCut (take (header_of packet).total_length (passed_by networks (Outward p) packet)) (error_outward_of networks.outside.interface.virtual_ip p.key.port packet)
unfolding passed_by
outward-cut networks p packet ip = passed-cut _ packet ip

outward-hides : Hides → (networks : Networks) (p : Pair) (next : Mac) (bytes : List ℕ) → IsWired networks → length next.0 ≡ 6 → IsPassable bytes → networks.outside.interface.virtual_ip.0 < 2 ^ 32
    → HidesInside networks.outside.interface.virtual_ip.0 (passed_frame networks (Outward p) next bytes)
outward-hides hides networks p next bytes wired six passes fits =
    let packet = (frame_of bytes).body in
    let from = networks.outside.interface.virtual_ip in
    let body = passed-body networks (Outward p) next bytes six wired.outside_mac in
    let cut = outward-cut networks p packet passes.ipv4 in (
      ap (λ (xs : List ℕ). (header_of xs).source) body
          ∙ ap (λ (a : Header). a.source) cut.header
          ∙ hides.source packet from p.key.port passes.ipv4 fits,
      ap (λ (xs : List ℕ). (header_of (inside_of (payload_of xs))).destination) body
          ∙ ap (λ (xs : List ℕ). (header_of (inside_of xs)).destination) cut.payload
          ∙ hides.inside packet from p.key.port passes.ipv4 passes.error fits,
    )

-- ---- the errors of a step

module _ (hides : Hides) (g : Shown) (wired : IsSetUp g) (fits : g.networks.outside.interface.virtual_ip.0 < 2 ^ 32) (may : Pair → Type 0) where
  one-hides : (packet : AtHand) (by : Translation) (sent : Sent) → IsPassedOn (known_of g) may packet by sent → sent.side ≡ Outside → HidesInside g.networks.outside.interface.virtual_ip.0 sent.bytes
  one-hides packet (Outward p) sent x is =
      let flow = error_flow_in packet.bytes in
      let six = next-six g (own_flow flow) (Outward p) x.next wired (sym (near-mac g (exit_by (Outward p)) (hop_of g.networks (Outward p) flow.destination.0)) ∙ x.hop) in
      subst (λ (xs : List ℕ). HidesInside g.networks.outside.interface.virtual_ip.0 xs) (sym x.bytes_are)
      (outward-hides hides g.networks p x.next packet.bytes wired.0.0 six x.goes.passes fits)
  one-hides packet (Inward p) sent x is = let clash = sym x.side ∙ is in absurd (cc)
  one-hides packet (Hairpin own other) sent x is = let clash = sym x.side ∙ is in absurd (cc)

  all-hide : (ds : List Sending) → ArePassedOn (known_of g) may ds → AllByRecursion (λ (f : Sent). f.side ≡ Outside → HidesInside g.networks.outside.interface.virtual_ip.0 f.bytes) (map (λ (d : Sending). d.sent) ds)
  all-hide [] all = tt
  all-hide (d ∷ ds) all = (one-hides d.packet d.by d.sent all.0, all-hide ds all.1)

pub step-hides : Hides → (hand : List AtHand) (s s2 : GatewayAndOutput) (frames : List Sent) → TellsAll hand s s2 → IsSetUp s2.shown → s2.shown.networks.outside.interface.virtual_ip.0 < 2 ^ 32
    → s2.told.frames ≡ s.told.frames ++ frames → HidesAllInside s2.shown.networks frames
step-hides hides hand s s2 frames x wired fits are =
    let outside = s2.shown.networks.outside.interface.virtual_ip.0 in
    let same = append_cancel_left s.told.frames x.frames frames (sym x.frames_are ∙ are) in
    subst (λ (fs : List Sent). HidesAllInside s2.shown.networks fs) same
    (subst (λ (fs : List Sent). AllByRecursion (λ (f : Sent). f.side ≡ Outside → HidesInside outside f.bytes) fs) (sym x.errors)
    (all-hide hides s2.shown wired fits _ x.passed x.each_error))

-- ---- what the gateway says itself

-- the contract by which the gateway's own frames at the outside hide inside addresses
pub record HidesOwn : Type 0 where
  pub answer : (networks : Networks) (active : Bool) (next : Mac) (bytes : List ℕ) → IsWired networks → IsPlaced networks → length next.0 ≡ 6 → AreBytes bytes → IsAskable bytes
      → is_asked networks.outside active (frame_of bytes) ≡ true → may_answer networks Outside (header_of (frame_of bytes).body).source ≡ true → HidesHosts networks (answer_frame networks.outside next bytes)
  pub complaint : (networks : Networks) (complaint : Complaint) (next : Mac) (bytes : List ℕ) → IsWired networks → IsPlaced networks → length next.0 ≡ 6 → AreBytes bytes
      → is_told networks Outside (frame_of bytes).body ≡ true → HidesHosts networks (complaint_frame networks.outside complaint next bytes)

module _ (hides : HidesOwn) (g : Shown) (w : IsSetUp g) where
  said-hides : (side : Side) (bytes : List ℕ) (purpose : Purpose) (next : Mac) (frame : List ℕ) → side ≡ Outside → AreBytes bytes → may_answer g.networks side (sender_in bytes).0 ≡ true → length next.0 ≡ 6
      → IsSaid g.networks (at_hand side bytes) purpose next frame → HidesHosts g.networks frame
  said-hides Outside bytes Answers next frame out are may six said =
      subst (λ (f : List ℕ). HidesHosts g.networks f) (sym said.1.1) (hides.answer g.networks said.1.0.0 next bytes w.0.0 w.0.1.placed six are said.0 said.1.0.1 may)
  said-hides Outside bytes (Complains reason exit) next frame out are may six said =
      subst (λ (f : List ℕ). HidesHosts g.networks f) (sym said.1.1)
      (hides.complaint g.networks said.0 next bytes w.0.0 w.0.1.placed six are (told-is g.networks Outside exit reason bytes said.0 said.1.0))
  said-hides Inside bytes purpose next frame out are may six said = absurd (cc)

  own-hides : (o : OwnFrame) → IsOwnOf (known_of g) o → o.sent.side ≡ Outside → HidesHosts g.networks o.sent.bytes
  own-hides o is out =
      let side = o.packet.side in
      let host = hop_back g side (sender_in o.packet.bytes) in
      let known = sym (near-mac g side host.0) ∙ is.hop in
      said-hides side o.packet.bytes o.purpose is.next o.sent.bytes (sym is.side ∙ out) is.bytes is.sender (back-six g side (sender_in o.packet.bytes) is.next w known) is.says

  all-own-hide : (os : List OwnFrame) → AllByRecursion (IsOwnOf (known_of g)) os → AllByRecursion (λ (f : Sent). f.side ≡ Outside → HidesHosts g.networks f.bytes) (map (λ (o : OwnFrame). o.sent) os)
  all-own-hide [] all = tt
  all-own-hide (o ∷ os) all = (own-hides o all.0, all-own-hide os all.1)

pub step-shows-nothing : HidesOwn → (hand : List AtHand) (s s2 : GatewayAndOutput) (frames : List Sent) → TellsAll hand s s2 → IsSetUp s2.shown → s2.told.frames ≡ s.told.frames ++ frames → ShowsNothing s2.shown.networks frames
step-shows-nothing hides hand s s2 frames x w are =
    let networks = s2.shown.networks in
    let same = append_cancel_left s.told.frames x.frames frames (sym x.frames_are ∙ are) in
    subst (λ (fs : List Sent). ShowsNothing networks fs) same
    (subst (λ (fs : List Sent). AllByRecursion (λ (f : Sent). f.side ≡ Outside → HidesHosts networks f.bytes) fs) (sym x.own_are) (all-own-hide hides s2.shown w x.own x.each_own))

-- the length that a complaint names is that of the side at which the packet would have left
about-mtu : (most : ℕ) (reason : Reason) (packet : List ℕ) (mtu : ℕ) → complaint_about most reason packet ≡ Some (TooBig mtu) → mtu ≡ most
unfolding complaint_about
about-mtu most TtlOver packet mtu is = absurd (cc)
about-mtu most TooLong packet mtu is = at (is_unbroken packet) is
  where
    at : (b : Bool) → (let o : Option Complaint = cond b (Some (TooBig most)) None in o) ≡ Some (TooBig mtu) → mtu ≡ most
    at true same = cc
    at false same = absurd (cc)
about-mtu most ShortFrame packet mtu is = absurd (cc)
about-mtu most NotMine packet mtu is = absurd (cc)
about-mtu most BadHeader packet mtu is = absurd (cc)
about-mtu most BadLength packet mtu is = absurd (cc)
about-mtu most BadHeaderSum packet mtu is = absurd (cc)
about-mtu most Fragment packet mtu is = absurd (cc)
about-mtu most NotUdpTcp packet mtu is = absurd (cc)
about-mtu most BadTransport packet mtu is = absurd (cc)
about-mtu most BadArp packet mtu is = absurd (cc)
about-mtu most BadAdvert packet mtu is = absurd (cc)
about-mtu most NotUp packet mtu is = absurd (cc)
about-mtu most NoBinding packet mtu is = absurd (cc)
about-mtu most NoPort packet mtu is = absurd (cc)
about-mtu most CannotWait packet mtu is = absurd (cc)
about-mtu most BadDatagram packet mtu is = absurd (cc)
about-mtu most OldWord packet mtu is = absurd (cc)
about-mtu most HostLimit packet mtu is = absurd (cc)
about-mtu most TooMany packet mtu is = absurd (cc)
about-mtu most SourceRoute packet mtu is = absurd (cc)

pub named-mtu : (networks : Networks) (side exit : Side) (reason : Reason) (bytes : List ℕ) (mtu : ℕ) → complaint_of networks side exit reason bytes ≡ Some (TooBig mtu) → mtu ≡ mtu_of networks exit
unfolding complaint_of
named-mtu networks side exit reason bytes mtu is = at (is_told networks side (frame_of bytes).body) is
  where
    at : (b : Bool) → (let o : Option Complaint = cond b (complaint_about (mtu_of networks exit) reason (frame_of bytes).body) None in o) ≡ Some (TooBig mtu) → mtu ≡ mtu_of networks exit
    at true some = about-mtu (mtu_of networks exit) reason (frame_of bytes).body mtu some
    at false some = absurd (cc)
