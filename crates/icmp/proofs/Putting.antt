-- The packets that the box appends.
use Rattle.std.proofs.Common.{◌≡◌, ℕ, List, ◌++◌}
use Rattle.addresses.specs.declared.Ip.{Ip}
use Rattle.icmp.specs.Own.{own_message, own_packet}
use Rattle.icmp.specs.declared.own.Cutting.{Cutting}

-- two packets of the box at the end of a list are the same where their parts are the same
pub same-packet : {cutting cutting2 : Cutting} {service service2 : ℕ} {from from2 to to2 : Ip} {carried carried2 : List ℕ} (kind code first second : ℕ) (list : List ℕ)
    → cutting ≡ cutting2 → service ≡ service2 → from ≡ from2 → to ≡ to2 → carried ≡ carried2
    → list ++ own_packet cutting service from.0 to.0 (own_message kind code first second carried)
    ≡ list ++ own_packet cutting2 service2 from2.0 to2.0 (own_message kind code first second carried2)
same-packet kind code first second list cutting service from to carried = cc

-- so are two packets whose messages say the same
pub same-said : {kind kind2 first first2 second second2 : ℕ} {carried carried2 : List ℕ} (list : List ℕ) (cutting : Cutting) (from to : ℕ)
    → kind ≡ kind2 → first ≡ first2 → second ≡ second2 → carried ≡ carried2
    → list ++ own_packet cutting 0 from to (own_message kind 0 first second carried)
    ≡ list ++ own_packet cutting 0 from to (own_message kind2 0 first2 second2 carried2)
same-said list cutting from to kind first second carried = cc
