-- The tests of an IPv4 header, and what they say where none fails.
use Rattle.std.proofs.Common.{◌≡◌, ◌≤◌, ◌<◌, ◌%◌, ℕ, Bool, false, not, ◌||◌, ◌==◌, nat_lt, List, [], ◌∷◌, length, take, arith, Option, None, ◌↔◌}
use Rattle.std.proofs.lemmas.Bool.Decides.{nat_tests}
use Rattle.sums.specs.Sum.{word_sum}
use Rattle.ipv4.specs.Header.{IsIpv4, has_wrong_sum, header_of, ipv4_refusal, options_of}
use Rattle.ipv4.specs.Options.{has_source_route}
use Rattle.ipv4.specs.Order.{first_fault}
use Rattle.ipv4.specs.declared.faults.Ipv4Fault.{Ipv4Fault}
use Rattle.ipv4.specs.declared.faults.Ipv4Fault.TheVariants.{TooShort, BadVersion, BadLength, BadHeaderSum, SourceRoute, Fragment}

-- the tests, on numbers in the place of bytes
abbrev refusal : (long version size total more offset : ℕ) → (wrong routed : Bool) → Option Ipv4Fault
refusal long version size total more offset wrong routed =
    first_fault (
    (nat_lt long 20, TooShort)
    ∷ (not (version == 4) || nat_lt size 20, BadVersion)
    ∷ (nat_lt total size || nat_lt long total, BadLength)
    ∷ (wrong, BadHeaderSum)
    ∷ (routed, SourceRoute)
    ∷ (not (more == 0) || not (offset == 0), Fragment)
    ∷ [])

record Passes (long version size total more offset : ℕ) (wrong routed : Bool) : Type 0 where
  pub fixed : 20 ≤ long
  pub version_four : version ≡ 4
  pub fields : 20 ≤ size
  pub header : size ≤ total
  pub there : total ≤ long
  pub sum : wrong ≡ false
  pub no_source_route : routed ≡ false
  pub last : more ≡ 0
  pub first : offset ≡ 0

passes : (long version size total more offset : ℕ) (wrong routed : Bool) → refusal long version size total more offset wrong routed ≡ None → Passes long version size total more offset wrong routed
passes long version size total more offset wrong routed e =
    let a : 20 ≤ long = grind (arith, nat_tests) in
    let b : version ≡ 4 = grind (arith, nat_tests) in
    let c : 20 ≤ size = grind (arith, nat_tests) in
    let d : size ≤ total = grind (arith, nat_tests) in
    let f : total ≤ long = grind (arith, nat_tests) in
    let g : wrong ≡ false = grind (arith, nat_tests) in
    let h : routed ≡ false = grind (arith, nat_tests) in
    let i : more ≡ 0 = grind (arith, nat_tests) in
    let j : offset ≡ 0 = grind (arith, nat_tests) in
    record { fixed = a; version_four = b; fields = c; header = d; there = f; sum = g; no_source_route = h; last = i; first = j }

passed : (long version size total more offset : ℕ) (wrong routed : Bool) → Passes long version size total more offset wrong routed → refusal long version size total more offset wrong routed ≡ None
passed long version size total more offset wrong routed p = grind (arith, nat_tests)

right : (n : ℕ) → (not (n % 65535 == 0) || (n == 0)) ≡ false → (n % 65535 ≡ 0) × (0 < n)
right n e = grind (arith, nat_tests)

not-wrong : (n : ℕ) → (n % 65535 ≡ 0) × (0 < n) → (not (n % 65535 == 0) || (n == 0)) ≡ false
not-wrong n e = grind (arith, nat_tests)

pub no-refusal : (bytes : List ℕ) → (ipv4_refusal bytes ≡ None) ↔ IsIpv4 bytes
no-refusal bytes = (to, from)
  where
    size : ℕ
    size = (header_of bytes).header_length

    to : ipv4_refusal bytes ≡ None → IsIpv4 bytes
    to e =
        let p = passes (length bytes) (header_of bytes).version size (header_of bytes).total_length (header_of bytes).more_fragments (header_of bytes).fragment_offset (has_wrong_sum (take size bytes)) (has_source_route (options_of bytes)) e in
        record {
          long = p.fixed;
          version = p.version_four;
          holds_fields = p.fields;
          holds_header = p.header;
          there = p.there;
          sum = right (word_sum (take size bytes)) p.sum;
          no_source_route = p.no_source_route;
          last = p.last;
          first = p.first;
        }

    from : IsIpv4 bytes → ipv4_refusal bytes ≡ None
    from is = passed (length bytes) (header_of bytes).version size (header_of bytes).total_length (header_of bytes).more_fragments (header_of bytes).fragment_offset (has_wrong_sum (take size bytes)) (has_source_route (options_of bytes)) (record {
      fixed = is.long;
      version_four = is.version;
      fields = is.holds_fields;
      header = is.holds_header;
      there = is.there;
      sum = not-wrong (word_sum (take size bytes)) is.sum;
      no_source_route = is.no_source_route;
      last = is.last;
      first = is.first;
    })
