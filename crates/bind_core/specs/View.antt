-- The model of a core from its fields, and what each core keeps.
use Rattle.std.specs.Prelude.{◌≡◌, ◌≤◌, vec_capacity}
use Rattle.resync.specs.Cursor.{coming}
use Rattle.bind_core.specs.declared.cores.Core.TheInside.{Inside}
use Rattle.spec_binding.specs.Books.{IsBook}
use Rattle.bind_core.specs.Changes.{IsBetween}
use Rattle.bind_core.specs.Cores.{Core, book_of}

abbrev pub core_of : Inside → Core
core_of c = record {
  id = c.id;
  table = c.table;
  limit = c.rules.limit;
  alone = c.rules.alone;
  inward_refresh = c.rules.inward_refresh;
  choice = c.rules.choice;
  ahead = c.rules.ahead;
  stage = c.stage;
  begun = c.loading.begun;
  named = c.loading.named;
  wants = c.wants;
  coming = coming c.cursor c.table;
  idle = c.idle.items;
}

pub record IsStored (c : Inside) : Type 0 where
  pub book : IsBook (book_of (core_of c))
  pub bounds : IsBetween c.table c.bounds
  pub zero : c.loading.zero ≡ c.table.zero
  pub one : c.loading.one ≡ c.table.one
  -- the list of keys has a place for each entry
  pub room : c.table.capacity ≤ vec_capacity c.idle
