-- The entries of a table after a key.
use Rattle.std.specs.Prelude.{List, Option}
use Rattle.std.specs.List.{filter}
use Rattle.nat_types.specs.declared.pairs.Key.{Key}
use Rattle.bindings.specs.declared.entries.Entry.{Entry}
use Rattle.bindings.specs.Lists.{stands_behind}

-- the entries after a key in the order by protocol (icmp first) and port; all where there is no key
abbrev pub behind : Option Key → List Entry → List Entry
behind last entries = filter (stands_behind last) entries
