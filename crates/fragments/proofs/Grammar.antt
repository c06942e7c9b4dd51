-- The tests of an IPv4 header, and what they say where the last one finds a fragment.
use Rattle.std.proofs.Common.{◌≡◌, ◌≤◌, ◌<◌, ◌%◌, ℕ, Bool, true, false, not, ◌||◌, ◌==◌, nat_lt, List, [], ◌∷◌, length, take, arith, Option, Some, ◌↔◌}
use Rattle.std.proofs.lemmas.Bool.Decides.{nat_tests}
use Rattle.sums.specs.Sum.{word_sum}
use Rattle.ipv4.specs.Order.{first_fault}
use Rattle.ipv4.specs.Header.{has_wrong_sum, header_of, ipv4_refusal, is_fragment, options_of}
use Rattle.ipv4.specs.Options.{has_source_route}
use Rattle.ipv4.specs.declared.faults.Ipv4Fault.{Ipv4Fault}
use Rattle.ipv4.specs.declared.faults.Ipv4Fault.TheVariants.{TooShort, BadVersion, BadLength, BadHeaderSum, SourceRoute, Fragment}
use Rattle.fragments.specs.Fragment.{HasHeader}

-- the tests, on numbers in the place of bytes
abbrev refusal : (long version size total : ℕ) → (wrong routed part : Bool) → Option Ipv4Fault
refusal long version size total wrong routed part =
    first_fault (
    (nat_lt long 20, TooShort)
    ∷ (not (version == 4) || nat_lt size 20, BadVersion)
    ∷ (nat_lt total size || nat_lt long total, BadLength)
    ∷ (wrong, BadHeaderSum)
    ∷ (routed, SourceRoute)
    ∷ (part, Fragment)
    ∷ [])

record Passes (long version size total : ℕ) (wrong routed part : Bool) : Type 0 where
  pub fixed : 20 ≤ long
  pub version_four : version ≡ 4
  pub fields : 20 ≤ size
  pub header : size ≤ total
  pub there : total ≤ long
  pub sum : wrong ≡ false
  pub no_source_route : routed ≡ false
  pub is_part : part ≡ true

passes : (long version size total : ℕ) (wrong routed part : Bool) → refusal long version size total wrong routed part ≡ Some Fragment → Passes long version size total wrong routed part
passes long version size total wrong routed part e =
    let a : 20 ≤ long = grind (arith, nat_tests) in
    let b : version ≡ 4 = grind (arith, nat_tests) in
    let c : 20 ≤ size = grind (arith, nat_tests) in
    let d : size ≤ total = grind (arith, nat_tests) in
    let f : total ≤ long = grind (arith, nat_tests) in
    let g : wrong ≡ false = grind (arith, nat_tests) in
    let h : routed ≡ false = grind (arith, nat_tests) in
    let i : part ≡ true = grind (arith, nat_tests) in
    record { fixed = a; version_four = b; fields = c; header = d; there = f; sum = g; no_source_route = h; is_part = i }

passed : (long version size total : ℕ) (wrong routed part : Bool) → Passes long version size total wrong routed part → refusal long version size total wrong routed part ≡ Some Fragment
passed long version size total wrong routed part p = grind (arith, nat_tests)

right : (n : ℕ) → (not (n % 65535 == 0) || (n == 0)) ≡ false → (n % 65535 ≡ 0) × (0 < n)
right n e = grind (arith, nat_tests)

not-wrong : (n : ℕ) → (n % 65535 ≡ 0) × (0 < n) → (not (n % 65535 == 0) || (n == 0)) ≡ false
not-wrong n e = grind (arith, nat_tests)

pub fragment-tests : (packet : List ℕ) → (ipv4_refusal packet ≡ Some Fragment) ↔ (HasHeader packet × (is_fragment (header_of packet) ≡ true))
fragment-tests packet = (to, from)
  where
    size : ℕ
    size = (header_of packet).header_length

    to : ipv4_refusal packet ≡ Some Fragment → HasHeader packet × (is_fragment (header_of packet) ≡ true)
    to e =
        let p = passes (length packet) (header_of packet).version size (header_of packet).total_length (has_wrong_sum (take size packet)) (has_source_route (options_of packet)) (is_fragment (header_of packet)) e in (
          record {
            long = p.fixed;
            version = p.version_four;
            holds_fields = p.fields;
            holds_header = p.header;
            there = p.there;
            sum = right (word_sum (take size packet)) p.sum;
            no_source_route = p.no_source_route;
          },
          p.is_part,
        )

    from : HasHeader packet × (is_fragment (header_of packet) ≡ true) → ipv4_refusal packet ≡ Some Fragment
    from h = passed (length packet) (header_of packet).version size (header_of packet).total_length (has_wrong_sum (take size packet)) (has_source_route (options_of packet)) (is_fragment (header_of packet)) (record {
      fixed = h.0.long;
      version_four = h.0.version;
      fields = h.0.holds_fields;
      header = h.0.holds_header;
      there = h.0.there;
      sum = not-wrong (word_sum (take size packet)) h.0.sum;
      no_source_route = h.0.no_source_route;
      is_part = h.1;
    })
