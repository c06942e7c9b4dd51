-- The two numbers by which an endpoint's port is drawn. They are of a hash behind a secret key (RFC 6056, section 3.3.3),
-- so that whoever lacks the key can't tell one endpoint's port by those of others.
use Rattle.std.specs.Prelude.{ℕ, List, ◌∷◌, ◌++◌, take, drop}
use Rattle.std.specs.Int.{w16, w32, to_be_bytes, from_be_bytes}
use Rattle.addresses.specs.declared.transport.Protocol.TheVariants.{Udp}
use Rattle.addresses.specs.Transport.{protocol_number}
use Rattle.nat_types.specs.declared.pairs.Endpoint.{Endpoint}
use Rattle.sha2.specs.Sha256.{sha256}

-- an endpoint as bytes: protocol (1), inside address (4), inside port (2), each with its high byte first
abbrev pub endpoint_bytes : Endpoint → List ℕ
endpoint_bytes x = protocol_number x.protocol ∷ to_be_bytes w32 x.address.0 ++ to_be_bytes w16 x.port.0

-- the SHA-256 (FIPS 180-4) of a key and an endpoint
abbrev pub hash_of : List ℕ → Endpoint → List ℕ
hash_of key x = sha256 (key ++ endpoint_bytes x)

-- the four bytes from a place on, as a number
abbrev pub number_at : List ℕ → ℕ → ℕ
number_at bytes place = from_be_bytes w32 (take 4 (drop place bytes))

-- the first and the second four bytes of the hash
abbrev pub numbers_of : List ℕ → Endpoint → ℕ × ℕ
numbers_of key x = (number_at (hash_of key x) 0, number_at (hash_of key x) 4)

-- an endpoint for examples: 192.168.1.10:5000 over UDP
abbrev pub example : Endpoint
example = record { address = record { 0 = 0xC0A8010A }; port = record { 0 = 5000 }; protocol = Udp }
