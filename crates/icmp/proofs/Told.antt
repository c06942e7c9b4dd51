-- Bytes are in the grammar exactly where no test fails.
use Rattle.std.proofs.Common.{◌≡◌, ◌≤◌, ◌<◌, ℕ, ◌-◌, ◌%◌, Bool, true, false, not, ◌&&◌, ◌||◌, ◌==◌, nat_lt, List, length, take, drop, arith, ap, ◌∙◌, sym, Some, None, if◌then◌else◌, refl}
use Rattle.std.proofs.lemmas.Bool.Decides.{nat_tests}
use Rattle.std.proofs.lemmas.List.{length-drop}
use Rattle.std.proofs.Math.Seq.{take-length}
use Rattle.sums.specs.Sum.{word_sum}
use Rattle.ipv4.specs.Header.{header_of, has_wrong_sum}
use Rattle.icmp.specs.declared.faults.IcmpFault.{IcmpFault}
use Rattle.icmp.specs.declared.kinds.Kind.{Kind}
use Rattle.icmp.specs.declared.kinds.Kind.TheVariants.{Echo}
use Rattle.icmp.specs.Query.{IsQuery, begins_with, has_no_identifier, kind_number, query_of}
use Rattle.icmp.specs.Quoted.{IsQuoted, has_no_query, has_no_packet, port_from, port_to}
use Rattle.icmp.specs.Ask.{IsAsk, has_no_ask}
use Rattle.icmp.specs.Error.{IsError, inside_of, has_error_kind, has_no_error}
use Rattle.icmp.proofs.Grammar.{none-passes, passes-none, three-clear}

pub quoted-told : (packet : List ℕ) → has_no_packet packet ≡ false → IsQuoted packet
quoted-told packet e =
    let h = header_of packet in
    let p = none-passes (length packet) h.version h.header_length (word_sum (take h.header_length packet)) h.fragment_offset h.protocol (has_no_query packet) (port_from packet) (port_to packet) e in
    record {
      long = p.whole;
      version = p.version_four;
      holds_fields = p.holds_fields;
      there = p.there;
      sum = (p.sum_zero, p.sum_some);
      first = p.first;
      protocol = p.translated;
      query = p.query;
      from = p.from_some;
      to = p.to_some;
    }

pub told-quoted : (packet : List ℕ) → IsQuoted packet → has_no_packet packet ≡ false
told-quoted packet g =
    let h = header_of packet in
    passes-none (length packet) h.version h.header_length (word_sum (take h.header_length packet)) h.fragment_offset h.protocol (has_no_query packet) (port_from packet) (port_to packet) (record {
      whole = g.long;
      version_four = g.version;
      holds_fields = g.holds_fields;
      there = g.there;
      sum_zero = g.sum.0;
      sum_some = g.sum.1;
      first = g.first;
      translated = g.protocol;
      query = g.query;
      from_some = g.from;
      to_some = g.to;
    })

-- the bytes after the first n are all that is left
pub take-rest : (n : ℕ) (bytes : List ℕ) → take (length bytes - n) (drop n bytes) ≡ drop n bytes
take-rest n bytes = ap (λ (k : ℕ). take k (drop n bytes)) (sym (length-drop n bytes)) ∙ take-length (drop n bytes)

clear-three : (a b d : Bool) → a ≡ false → b ≡ false → d ≡ false → (a || b || d) ≡ false
clear-three false false false e f g = refl
clear-three false false true e f g = cc
clear-three false true d e f g = cc
clear-three true b d e f g = cc

not_below : (m n : ℕ) → nat_lt m n ≡ false → n ≤ m
not_below m n e = grind (arith, nat_tests)

below_not : (m n : ℕ) → n ≤ m → nat_lt m n ≡ false
below_not m n e = grind (arith, nat_tests)

right-clear : (n : ℕ) → (not (n % 65535 == 0) || (n == 0)) ≡ false → (n % 65535 ≡ 0) × (0 < n)
right-clear n e =
    let zero : n % 65535 ≡ 0 = grind (arith, nat_tests) in
    let some : 0 < n = grind (arith, nat_tests) in
    (zero, some)

clear-right : (n : ℕ) → n % 65535 ≡ 0 → 0 < n → (not (n % 65535 == 0) || (n == 0)) ≡ false
clear-right n zero some = grind (arith, nat_tests)

-- a message of an error's type that fails no test is an error
pub error-told : (message : List ℕ) → has_error_kind message ≡ true → has_no_error message ≡ false → IsError message
error-told message kind e =
    let p = three-clear (nat_lt (length message) 8) (has_wrong_sum message) (has_no_packet (inside_of message)) e in
    record {
      long = not_below (length message) 8 p.0;
      kind = kind;
      sum = right-clear (word_sum message) p.1.0;
      inside = quoted-told (inside_of message) p.1.1;
    }

pub told-error : (message : List ℕ) → IsError message → has_no_error message ≡ false
told-error message g =
    clear-three (nat_lt (length message) 8) (has_wrong_sum message) (has_no_packet (inside_of message))
    (below_not (length message) 8 g.long)
    (clear-right (word_sum message) g.sum.0 g.sum.1)
    (told-quoted (inside_of message) g.inside)

-- where two tests, or three, in an order give no fault, none of them fails
pub two-clear : (x y : IcmpFault) (k b : Bool) → (if not k then Some x else (if b then Some y else None)) ≡ None → (k ≡ true) × (b ≡ false)
two-clear x y true false e = (refl, refl)
two-clear x y true true e = cc
two-clear x y false b e = cc

pub clear-two : (x y : IcmpFault) (k b : Bool) → k ≡ true → b ≡ false → (if not k then Some x else (if b then Some y else None)) ≡ None
clear-two x y true false e f = refl
clear-two x y true true e f = cc
clear-two x y false b e f = cc

pub all-clear : (x y : IcmpFault) (p k b : Bool) → (if not p then Some x else (if not k then Some x else (if b then Some y else None))) ≡ None → (p ≡ true) × ((k ≡ true) × (b ≡ false))
all-clear x y true true false e = (refl, (refl, refl))
all-clear x y true true true e = cc
all-clear x y true false b e = cc
all-clear x y false k b e = cc

pub clear-all : (x y : IcmpFault) (p k b : Bool) → p ≡ true → k ≡ true → b ≡ false → (if not p then Some x else (if not k then Some x else (if b then Some y else None))) ≡ None
clear-all x y true true false e f g = refl
clear-all x y true true true e f g = cc
clear-all x y true false b e f g = cc
clear-all x y false k b e f g = cc

pub same-number : (m n : ℕ) → (m == n) ≡ true → m ≡ n
same-number m n e = grind (arith, nat_tests)

pub number-same : (m n : ℕ) → m ≡ n → (m == n) ≡ true
number-same m n e = grind (arith, nat_tests)

-- the tests of a query's beginning, on numbers in the place of bytes
begun : (long kind number code : ℕ) → (nat_lt 0 long && (kind == number) && (code == 0)) ≡ true → (kind ≡ number) × (code ≡ 0)
begun long kind number code e =
    let same : kind ≡ number = grind (arith, nat_tests) in
    let zero : code ≡ 0 = grind (arith, nat_tests) in
    (same, zero)

begun-back : (long kind number code : ℕ) → 8 ≤ long → kind ≡ number → code ≡ 0 → (nat_lt 0 long && (kind == number) && (code == 0)) ≡ true
begun-back long kind number code e f g = grind (arith, nat_tests)

identified : (long identifier : ℕ) → (nat_lt long 8 || (identifier == 0)) ≡ false → (8 ≤ long) × (0 < identifier)
identified long identifier e =
    let whole : 8 ≤ long = grind (arith, nat_tests) in
    let some : 0 < identifier = grind (arith, nat_tests) in
    (whole, some)

identified-back : (long identifier : ℕ) → 8 ≤ long → 0 < identifier → (nat_lt long 8 || (identifier == 0)) ≡ false
identified-back long identifier e f = grind (arith, nat_tests)

-- a message that begins as a query of a kind, and whose header fails no test, is one
pub query-told : (kind : Kind) (message : List ℕ) → begins_with kind message ≡ true → has_no_identifier message ≡ false → IsQuery kind message
query-told kind message begins e =
    let q = query_of message in
    let first = begun (length message) q.kind (kind_number kind) q.code begins in
    let rest = identified (length message) q.identifier e in
    record { long = rest.0; type_is = first.0; code = first.1; identifier = rest.1 }

pub told-begins : (kind : Kind) (message : List ℕ) → IsQuery kind message → begins_with kind message ≡ true
told-begins kind message g =
    let q = query_of message in
    begun-back (length message) q.kind (kind_number kind) q.code g.long g.type_is g.code

pub told-identified : (kind : Kind) (message : List ℕ) → IsQuery kind message → has_no_identifier message ≡ false
told-identified kind message g = identified-back (length message) (query_of message).identifier g.long g.identifier

-- where one test gives no fault, it doesn't fail
pub one-clear : (x : IcmpFault) (b : Bool) → (if b then Some x else None) ≡ None → b ≡ false
one-clear x false e = refl
one-clear x true e = cc

pub clear-one : (x : IcmpFault) (b : Bool) → b ≡ false → (if b then Some x else None) ≡ None
clear-one x false e = refl
clear-one x true e = cc

was-not : (b : Bool) → not b ≡ false → b ≡ true
was-not true e = refl
was-not false e = cc

not-was : (b : Bool) → b ≡ true → not b ≡ false
not-was true e = refl
not-was false e = cc

-- a message that fails no test of an Echo is an Echo to the box
pub ask-told : (message : List ℕ) → has_no_ask message ≡ false → IsAsk message
ask-told message e =
    let q = query_of message in
    let p = three-clear (nat_lt (length message) 8) (not (begins_with Echo message)) (has_wrong_sum message) e in
    let first = begun (length message) q.kind (kind_number Echo) q.code (was-not (begins_with Echo message) p.1.0) in
    record {
      long = not_below (length message) 8 p.0;
      type_is = first.0;
      code = first.1;
      sum = right-clear (word_sum message) p.1.1;
    }

pub told-ask : (message : List ℕ) → IsAsk message → has_no_ask message ≡ false
told-ask message g =
    let q = query_of message in
    clear-three (nat_lt (length message) 8) (not (begins_with Echo message)) (has_wrong_sum message)
    (below_not (length message) 8 g.long)
    (not-was (begins_with Echo message) (begun-back (length message) q.kind (kind_number Echo) q.code g.long g.type_is g.code))
    (clear-right (word_sum message) g.sum.0 g.sum.1)
