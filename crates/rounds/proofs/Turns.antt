-- What is sent, and turns, one after the other.
use Rattle.std.proofs.Common.{◌≡◌, ◌∙◌, ◌++◌, ℕ, zero, suc, List, [], ◌∷◌, map, take, Option, Some, None, Result, Ok, Err, OnErr, OnOk, refl, sym, ap, subst, inl, inr}
use Rattle.std.proofs.lemmas.List.{append-nil, append_assoc}
use Rattle.nat_types.specs.declared.gateways.Side.{Side}
use Rattle.fragments.specs.Cut.{pieces}
use Rattle.packet_rules.specs.Networks.{mtu_of}
use Rattle.packet_rules.specs.declared.networks.Networks.{Networks}
use Rattle.output.specs.Output.{Output, Sent, none_told}
use Rattle.spec_gateway.specs.Sendings.{all_pieces}
use Rattle.sockets.specs.Wires.{Message, Passes, message_of, received, sent}
use Rattle.sockets.specs.declared.wire.Place.TheVariants as place
use Rattle.sockets.specs.declared.wire.Place.{Place}
use Rattle.sockets.specs.declared.wire.WireFault.{WireFault}
use Rattle.spec_gateway.specs.State.{GatewayState}
use Rattle.spec_gateway.specs.Steps.{IsGatewayStep}
use Rattle.spec_step.specs.declared.events.Event.{Event}
use Rattle.rounds.specs.Runs.{AreSent, AreTurns, HasTurned, IsTurn, Takes, TakesReplied, all_sent, frame_sent, frames_sent}

-- these were sent, and then others
pub sent_on : {W : Type 0} (passes : Passes W) (xs ys : List Message) (a b c : W) → AreSent passes xs a b → AreSent passes ys b c → AreSent passes (xs ++ ys) a c
sent_on passes [] ys a b c one two = subst (λ (w : _). AreSent passes ys w c) one two
sent_on passes (x ∷ xs) ys a b c one two = (one.0, (one.1.0, sent_on passes xs ys one.0 b c one.1.1 two))

-- of these some were sent, and the rest is still to be
pub record HasSent {W : Type 0} (passes : Passes W) (all rest : List Message) (w w2 : W) : Type 0 where
  pub done : List Message
  pub are : all ≡ done ++ rest
  pub sent : AreSent passes done w w2

pub sent_none : {W : Type 0} (passes : Passes W) (all rest : List Message) (w w2 : W) → all ≡ rest → w2 ≡ w → HasSent passes all rest w w2
sent_none passes all rest w w2 is same = record { done = []; are = is; sent = same }

pub sent_more : {W : Type 0} (passes : Passes W) (all rest rest2 : List Message) (x : Message) (a b c : W) → HasSent passes all rest a b → rest ≡ x ∷ rest2 → passes b x c
    → HasSent passes all rest2 a c
sent_more passes all rest rest2 x a b c had is one = record {
  done = had.done ++ x ∷ [];
  are = had.are ∙ (ap (λ (ys : List Message). had.done ++ ys) is ∙ sym (append_assoc had.done (x ∷ []) rest2));
  sent = sent_on passes had.done (x ∷ []) a b c had.sent (c, (one, refl));
}

pub sent_all : {W : Type 0} (passes : Passes W) (all rest : List Message) (a b : W) → HasSent passes all rest a b → rest ≡ [] → AreSent passes all a b
sent_all passes all rest a b had is =
    subst (λ (xs : List Message). AreSent passes xs a b) (sym (had.are ∙ (ap (λ (ys : List Message). had.done ++ ys) is ∙ append-nil had.done))) had.sent

-- a step's answer, and what was sent of what it told
pub taken_by : {W T E : Type 0} (passes : Passes W) (event : Event) (r : Result T E) (g g2 : GatewayState) (out : Output) (w w2 : W)
    → OnOk r (IsGatewayStep g none_told event g2 out) → OnErr r (g2 ≡ g) → OnErr r (out ≡ none_told) → AreSent passes (all_sent g2.shown.networks out) w w2
    → Takes passes event g w g2 w2
taken_by passes event (Ok x) g g2 out w w2 step err untold all = inl (out, (step, all))
taken_by passes event (Err x) g g2 out w w2 step err untold all = inr (err, subst (λ (o : Output). AreSent passes (all_sent g2.shown.networks o) w w2) untold all)

-- no turn was had
pub none_had : {W : Type 0} (passes : Passes W) (g g2 : GatewayState) (w w2 : W) → g2 ≡ g → w2 ≡ w → HasTurned passes g w g2 w2
none_had passes g g2 w w2 same so = (0, (same, so))

-- one turn more
pub one_more : {W : Type 0} (passes : Passes W) (g h k : GatewayState) (w x y : W) → HasTurned passes g w h x → IsTurn passes h x k y → HasTurned passes g w k y
one_more passes g h k w x y had turn = (suc had.0, (h, (x, (had.1, turn))))

-- turns, and then others
joined_to : {W : Type 0} (passes : Passes W) (n : ℕ) (g h k : GatewayState) (w x y : W) → HasTurned passes g w h x → AreTurns passes n h x k y → HasTurned passes g w k y
joined_to passes zero g h k w x y had rest =
    subst (λ (s : GatewayState). HasTurned passes g w s y) (sym rest.0) (subst (λ (v : _). HasTurned passes g w h v) (sym rest.1) had)
joined_to passes (suc n) g h k w x y had rest =
    one_more passes g rest.0 k w rest.1.0 y (joined_to passes n g h rest.0 w x rest.1.0 had rest.1.1.0) rest.1.1.1

pub joined : {W : Type 0} (passes : Passes W) (g h k : GatewayState) (w x y : W) → HasTurned passes g w h x → HasTurned passes h x k y → HasTurned passes g w k y
joined passes g h k w x y had rest = joined_to passes rest.0 g h k w x y had rest.1

-- a message came, so many bytes of a receiver's buffer, and was taken
pub heard : {W : Type 0} (passes : Passes W) (g k : GatewayState) (w y z : W) (place : Place) (count : ℕ) (buffer : List ℕ) (found : Option (Place × ℕ)) → found ≡ Some (place, count)
    → passes w (message_of {E = WireFault} (Ok found) buffer) y → TakesReplied passes place (take count buffer) g y k z → IsTurn passes g w k z
heard passes g k w y z place count buffer found is came taken = inl (record {
  at = place;
  bytes = take count buffer;
  middle = y;
  came = subst (λ (o : Option (Place × ℕ)). passes w (message_of {E = WireFault} (Ok o) buffer) y) is came;
  taken = taken;
})

-- nothing came
pub unheard : {W : Type 0} (passes : Passes W) (g : GatewayState) (w y : W) (buffer : List ℕ) (found : Option (Place × ℕ)) → found ≡ None
    → passes w (message_of {E = WireFault} (Ok found) buffer) y → IsTurn passes g w g y
unheard passes g w y buffer found is came = inr (inr (refl, inr (subst (λ (o : Option (Place × ℕ)). passes w (message_of {E = WireFault} (Ok o) buffer) y) is came)))

-- ---- frames, each as it is or in its fragments

-- what is sent of the first frame, and then of the others
piece_sent : (side : Side) (strings : List (List ℕ)) (more : List Sent) → map frame_sent (map (λ bytes. let f : Sent = record { side = side; bytes = bytes } in f) strings ++ more)
    ≡ map (sent (place.Side side)) strings ++ map frame_sent more
piece_sent side [] more = refl
piece_sent side (x ∷ xs) more = ap (λ (ys : List Message). sent (place.Side side) x ∷ ys) (piece_sent side xs more)

pub frames_first : (networks : Networks) (all fs : List Sent) (f : Sent) → all ≡ f ∷ fs
    → frames_sent networks all ≡ map (sent (place.Side f.side)) (pieces (mtu_of networks f.side) f.bytes) ++ frames_sent networks fs
frames_first networks all fs f is =
    ap (frames_sent networks) is ∙ piece_sent f.side (pieces (mtu_of networks f.side) f.bytes) (all_pieces networks fs)

-- some more were sent
pub sent_some : {W : Type 0} (passes : Passes W) (all rest some rest2 : List Message) (a b c : W) → HasSent passes all rest a b → rest ≡ some ++ rest2 → AreSent passes some b c
    → HasSent passes all rest2 a c
sent_some passes all rest some rest2 a b c had is more = record {
  done = had.done ++ some;
  are = had.are ∙ (ap (λ (ys : List Message). had.done ++ ys) is ∙ sym (append_assoc had.done some rest2));
  sent = sent_on passes had.done some a b c had.sent more;
}
