-- No datagram is longer than 2,232 bytes: 56 of a header, and 64 records of 34 each.
use Rattle.std.proofs.Common.{◌≡◌, ◌≤◌, ℕ, ◌*◌, List, [], ◌∷◌, ◌++◌, length, refl, arith}
use Rattle.std.specs.List.{AllByRecursion, flat_map}
use Rattle.std.proofs.lemmas.List.{length-append}
use Rattle.byteorder.specs.Endian.{big_bytes}
use Rattle.byteorder.specs.Numbers.{length-bytes_high_first}
use Rattle.addresses.specs.declared.transport.Port.{Port}
use Rattle.settings.specs.declared.values.Values.{Values}
use Rattle.nat_types.specs.declared.pairs.Key.{Key}
use Rattle.nat_types.specs.declared.pairs.Pair.{Pair}
use Rattle.nat_types.specs.declared.records.Granted.{Granted}
use Rattle.nat_types.specs.declared.records.Record.{Record}
use Rattle.nat_types.specs.declared.records.Record.TheVariants.{Install, Accept, Refuse, Ask, Yes, No, Begin, Put, Done, Want, Grant, Owner, Tell}
use Rattle.link.specs.declared.datagrams.Datagram.{Datagram}
use Rattle.link.specs.Grammar.{IsWellFormed, IsWellFormedGrant, IsWellFormedRecord, gateway_number, status_number, key_bytes, pair_bytes, port_bytes, record_bytes, spelling, values_bytes}

-- a grant has at most 16 ports
abbrev pub Few : Type 0
Few = (g : Granted) → IsWellFormedGrant g → length g.ports ≤ 16

big : (n x : ℕ) → length (big_bytes n x) ≡ n
big n x = length-bytes_high_first n x

key-short : (k : Key) → length (key_bytes k) ≡ 3
key-short k = omega (arith, big 2 k.port.0)

pair-short : (p : Pair) → length (pair_bytes p) ≡ 9
pair-short p =
    let a = length-append (key_bytes p.key) (big_bytes 4 p.endpoint.address.0 ++ port_bytes p.endpoint.port) in
    let b = length-append (big_bytes 4 p.endpoint.address.0) (port_bytes p.endpoint.port) in
    omega (arith, a, b, key-short p.key, big 4 p.endpoint.address.0, big 2 p.endpoint.port.0)

ports-short : (ps : List Port) → length (flat_map port_bytes ps) ≡ 2 * length ps
ports-short [] = refl
ports-short (p ∷ ps) = omega (arith, length-append (port_bytes p) (flat_map port_bytes ps), big 2 p.0, ports-short ps)

record-short : Few → (r : Record) → IsWellFormedRecord r → length (record_bytes r) ≤ 34
record-short most (Install p) is = omega (arith, pair-short p)
record-short most (Accept k) is = omega (arith, key-short k)
record-short most (Refuse k) is = omega (arith, key-short k)
record-short most (Ask k) is = omega (arith, key-short k)
record-short most (Yes k) is = omega (arith, key-short k)
record-short most (No k) is = omega (arith, key-short k)
record-short most Begin is = omega arith
record-short most (Put p) is = omega (arith, pair-short p)
record-short most Done is = omega arith
record-short most Want is = omega arith
record-short most (Grant g) is = omega (arith, ports-short g.ports, most g is)
record-short most (Tell p) is = omega (arith, pair-short p)
record-short most (Owner a b) is = omega (arith, length-append (port_bytes a) (port_bytes b), big 2 a.0, big 2 b.0)

records-short : Few → (rs : List Record) → AllByRecursion IsWellFormedRecord rs → length (flat_map record_bytes rs) ≤ 34 * length rs
records-short most [] are = omega arith
records-short most (r ∷ rs) are = omega (arith, length-append (record_bytes r) (flat_map record_bytes rs), record-short most r are.0, records-short most rs are.1)

values-short : (v : Values) → length (values_bytes v) ≡ 18
values-short v =
    let f : List ℕ = v.inside_prefix ∷ v.outside_prefix ∷ [] in
    let e = big_bytes 4 v.outside_virtual.0 ++ f in
    let d = big_bytes 4 v.inside_virtual.0 ++ e in
    let c = port_bytes v.one_highest ++ d in
    let b = port_bytes v.one_lowest ++ c in
    let a = port_bytes v.zero_highest ++ b in
    omega (
      arith,
      length-append (port_bytes v.zero_lowest) a,
      length-append (port_bytes v.zero_highest) b,
      length-append (port_bytes v.one_lowest) c,
      length-append (port_bytes v.one_highest) d,
      length-append (big_bytes 4 v.inside_virtual.0) e,
      length-append (big_bytes 4 v.outside_virtual.0) f,
      big 2 v.zero_lowest.0,
      big 2 v.zero_highest.0,
      big 2 v.one_lowest.0,
      big 2 v.one_highest.0,
      big 4 v.inside_virtual.0,
      big 4 v.outside_virtual.0,
    )

pub short : Few → (d : Datagram) → IsWellFormed d → length (spelling d) ≤ 2232
short most d is =
    let rs = d.records.items in
    let tail = flat_map record_bytes rs in
    let a4 = big_bytes 8 d.first in
    let a3 = big_bytes 8 d.delivered in
    let a2 = big_bytes 8 d.receiver_boot in
    let a1 = big_bytes 8 d.boot in
    let count = is.count in
    let status = status_number d.status in
    let e4 = a4 ++ (length rs ∷ []) in
    let e3 = a3 ++ e4 in
    let own = values_bytes d.values in
    let e2 = a2 ++ (own ++ (status ∷ e3)) in
    omega (
      arith,
      records-short most rs is.records,
      count,
      length-append (78 ∷ 80 ∷ 4 ∷ gateway_number d.sender ∷ (a1 ++ e2)) tail,
      length-append a1 e2,
      length-append a2 (own ++ (status ∷ e3)),
      length-append own (status ∷ e3),
      values-short d.values,
      length-append a3 e4,
      length-append a4 (length rs ∷ []),
      big 8 d.first,
      big 8 d.delivered,
      big 8 d.receiver_boot,
      big 8 d.boot,
    )
