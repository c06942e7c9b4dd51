-- A frame that is cut is an IPv4 packet without padding.
use Rattle.std.proofs.Common.{◌≡◌, ◌≤◌, ◌↔◌, ◌+◌, ◌/◌, ◌%◌, ℕ, Bool, true, false, ◌&&◌, ◌==◌, nat_le, nat_lt, is_none, Option, Some, None, List, length, refl, arith}
use Rattle.std.proofs.lemmas.Bool.Decides.{nat_tests}
use Rattle.frames.specs.Frame.{frame_of}
use Rattle.ipv4.specs.Header.{IsIpv4, header_of, ipv4_refusal}
use Rattle.ipv4.specs.declared.faults.Ipv4Fault.{Ipv4Fault}
use Rattle.output.specs.Output.{Sent}
use Rattle.packet_rules.specs.declared.networks.Networks.{Networks}
use Rattle.packet_rules.specs.Networks.{mtu_of}
use Rattle.fragments.specs.Cut.{IsIpv4Frame, is_cuttable, is_long}
use Rattle.fragments.specs.Fragment.{ipv4_in}
use Rattle.spec_gateway.specs.Sendings.{is_for_many, is_numbered}

-- a packet is refused for no reason where it is one
abbrev pub Grammar : Type 0
Grammar = (bytes : List ℕ) → (ipv4_refusal bytes ≡ None) ↔ IsIpv4 bytes

record Passes (long kind total : ℕ) (packet : Bool) : Type 0 where
  pub framed : 14 ≤ long
  pub kind_is : kind ≡ 2048
  pub packet_is : packet ≡ true
  pub size : long ≡ 14 + total

passes : (mtu long kind total flag : ℕ) (packet : Bool) → (nat_lt (14 + mtu) long && (nat_le 14 long && (kind == 2048) && packet && (long == 14 + total) && (flag == 0))) ≡ true → Passes long kind total packet
passes mtu long kind total flag packet e =
    let a : 14 ≤ long = grind (arith, nat_tests) in
    let b : kind ≡ 2048 = grind (arith, nat_tests) in
    let c : packet ≡ true = grind (arith, nat_tests) in
    let d : long ≡ 14 + total = grind (arith, nat_tests) in
    record { framed = a; kind_is = b; packet_is = c; size = d }

no-fault : (o : Option Ipv4Fault) → is_none o ≡ true → o ≡ None
no-fault None e = refl
no-fault (Some fault) e = absurd (cc)

pub record IsCuttable (frame : List ℕ) : Type 0 where
  pub packet : IsIpv4Frame frame
  pub ethertype : (frame_of frame).ethertype ≡ 2048
  pub unpadded : length frame ≡ 14 + (header_of (ipv4_in frame)).total_length

pub long-is : Grammar → (mtu : ℕ) (frame : List ℕ) → is_long mtu frame ≡ true → IsCuttable frame
unfolding is_long is_cuttable
long-is grammar mtu frame e =
    let p = passes mtu (length frame) (frame_of frame).ethertype (header_of (ipv4_in frame)).total_length ((header_of (ipv4_in frame)).flags_word / 0x4000 % 2) (is_none (ipv4_refusal (ipv4_in frame))) e in
    record {
      packet = record { whole = p.framed; packet = (grammar (ipv4_in frame)).0 (no-fault (ipv4_refusal (ipv4_in frame)) p.packet_is) };
      ethertype = p.kind_is;
      unpadded = p.size;
    }

and-first : (a b : Bool) → (a && b) ≡ true → a ≡ true
and-first true b e = refl
and-first false b e = absurd (cc)

-- a frame that is numbered is too long for its side
pub numbered-long : (networks : Networks) (f : Sent) → is_numbered networks f ≡ true → is_long (mtu_of networks f.side) f.bytes ≡ true
numbered-long networks f e = and-first (is_long (mtu_of networks f.side) f.bytes) (is_for_many networks f) e
