-- Rising lists of ports, and their unbroken runs.
use Rattle.std.specs.Prelude.{ℕ, suc, ◌+◌, ◌-◌, ◌==◌, not, nat_le, nat_lt, Option, Some, None, List, [], ◌∷◌, if◌then◌else◌}
use Rattle.std.specs.List.{filter, range_with_len}
use Rattle.addresses.specs.declared.transport.Port.{Port}
use Rattle.bindings.specs.declared.entries.PortBounds.{PortBounds}
use Rattle.bindings.specs.Ports.{in_either, lowest_of, highest_of}

abbrev pub port_at : ℕ → Port
port_at p = record { 0 = p }

-- the run from the one port to the other
abbrev pub run_of : ℕ → ℕ → PortBounds
run_of first last = record { lowest = port_at first; highest = port_at last }

-- the unbroken runs of a rising list, where one from the one port to the other has begun
abbrev pub runs_on : ℕ → ℕ → List ℕ → List PortBounds
runs_on first last [] = run_of first last ∷ []
runs_on first last (p ∷ ps) = (if p == suc last then runs_on first p ps else run_of first last ∷ runs_on p p ps)

-- the unbroken runs of a rising list
abbrev pub runs_of : List ℕ → List PortBounds
runs_of [] = []
runs_of (p ∷ ps) = runs_on p p ps

-- the ports of a list from a port on
abbrev pub ports_from_on : ℕ → List ℕ → List ℕ
ports_from_on from ports = filter (nat_le from) ports

abbrev pub first_of : {A : Type 0} → List A → Option A
first_of [] = None
first_of (x ∷ xs) = Some x

-- the lowest unbroken run of the ports from one on
abbrev pub first_run : ℕ → List ℕ → Option PortBounds
first_run from ports = first_of (runs_of (ports_from_on from ports))

-- a rising list with one more, at its place
abbrev pub own_in : ℕ → List ℕ → List ℕ
own_in p [] = p ∷ []
own_in p (q ∷ qs) = (if nat_lt p q then p ∷ q ∷ qs else q ∷ own_in p qs)

-- the list without a port
abbrev pub without_port : ℕ → List ℕ → List ℕ
without_port p ports = filter (λ q. not (q == p)) ports

-- all ports of both ranges, rising
abbrev pub all_ports : PortBounds → PortBounds → List ℕ
all_ports zero one =
    filter (in_either zero one) (range_with_len (lowest_of zero one) (highest_of zero one + 1 - lowest_of zero one))
