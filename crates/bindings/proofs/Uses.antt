-- The uses of a key's pair, and what its entry knows of them.
use Rattle.std.proofs.Common.{◌≡◌, ℕ, ◌≤◌, Bool, true, cond, ◌&&◌, Some, List, ◌∷◌, sym, ap, subst, ◌∙◌}
use Rattle.std.proofs.lemmas.Bool.{and_parts}
use Rattle.nat_types.specs.declared.pairs.Key.{Key}
use Rattle.activity.specs.declared.packets.Packet.{Packet}
use Rattle.activity.specs.Lives.{History, came, with_packet, renewed, is_idle}
use Rattle.activity.specs.Rests.{AccountsFor, HaveRested}
use Rattle.activity.specs.Lives.{least_rest}
use Rattle.activity.proofs.Offered.{looks-is, accounts-came, accounts-renewed, accounts-anew, accounts-later, accounts-kept, accounts-idle, accounts-unused}
use Rattle.bindings.specs.declared.entries.Entry.{Entry}
use Rattle.bindings.specs.Entries.{slot_of}
use Rattle.bindings.specs.Lives.{rests_by, rests_at, is_unused_by, is_unused_at, is_among, may_go, use_counts_by, use_counts_at}
use Rattle.bindings.specs.Table.{Table, IsTable, IsPast, Accounts, idle_keys_of}
use Rattle.bindings.proofs.Slots.{slot-key}
use Rattle.bindings.proofs.Resting.{listed-is}

pub uses-begin : (t : Table) (key : Key) (by_install : Bool) (now : ℕ) (uses : List ℕ) → IsPast t key (came by_install now) → HaveRested (least_rest key.protocol) now uses → Accounts t key now uses
uses-begin t key by_install now uses is rested = (came by_install now, is, accounts-came key.protocol by_install now uses rested)

pub uses-carried : (t u : Table) (key : Key) (since : ℕ) (uses : List ℕ) (p : Packet) → ((past : History) → IsPast t key past → IsPast u key (with_packet p past)) → since ≤ p.at → Accounts t key since uses
    → Accounts u key p.at (cond (use_counts_at t.entries t.lives key p) (p.at ∷ uses) uses)
uses-carried t u key since uses p goes h a =
    (with_packet p a.0, goes a.0 a.1, subst (λ b. AccountsFor key.protocol p.at (with_packet p a.0) (cond b (p.at ∷ uses) uses)) (sym (ap (use_counts_by key p) a.1.1)) (accounts-kept key.protocol since a.0 a.1.0 uses p h a.1.2 a.2))

pub uses-renewed : (t u : Table) (key : Key) (since now : ℕ) (uses : List ℕ) → ((past : History) → IsPast t key past → IsPast u key (renewed now past)) → HaveRested (least_rest key.protocol) now uses → Accounts t key since uses → Accounts u key now uses
uses-renewed t u key since now uses goes rested a = (renewed now a.0, goes a.0 a.1, accounts-renewed key.protocol a.0 now uses rested)

pub uses-anew : (t u : Table) (key : Key) (now : ℕ) (uses : List ℕ) → ((past : History) → IsPast t key past → IsPast u key (renewed now past)) → Accounts t key now uses → Accounts u key now uses
uses-anew t u key now uses goes a = (renewed now a.0, goes a.0 a.1, accounts-anew key.protocol a.0 now uses a.2)

pub uses-kept : (t u : Table) (key : Key) (since now : ℕ) (uses : List ℕ) → ((past : History) → IsPast t key past → IsPast u key past) → since ≤ now → Accounts t key since uses → Accounts u key now uses
uses-kept t u key since now uses goes h a = (a.0, goes a.0 a.1, accounts-later key.protocol a.0 since now uses h a.2)

pub uses-idle : (t : Table) (key : Key) (now : ℕ) (uses : List ℕ) → Accounts t key now uses → rests_at t.entries t.lives key now ≡ true → HaveRested (least_rest key.protocol) now uses
uses-idle t key now uses a h =
    accounts-idle key.protocol a.0 now uses a.2 (sym (looks-is key.protocol a.0 a.1.0 now a.1.2) ∙ ap (rests_by key now) (sym a.1.1) ∙ h)

pub uses-listed : (t : Table) (key : Key) (e : Entry) (lone : Bool) (now : ℕ) (uses : List ℕ) → IsTable t → slot_of t.entries key ≡ Some e → Accounts t key now uses → is_among key (idle_keys_of t lone now) ≡ true → HaveRested (least_rest key.protocol) now uses
uses-listed t key e lone now uses is held a h =
    let both : (may_go lone e.state && is_idle key.protocol a.0 now) ≡ true = sym (listed-is lone now t.entries t.lives key e a.0 is.keys held (slot-key t.entries key e held) a.1) ∙ h in
    accounts-idle key.protocol a.0 now uses a.2 (and_parts (may_go lone e.state) (is_idle key.protocol a.0 now) both).1

pub uses-unused : (t : Table) (key : Key) (now : ℕ) (uses : List ℕ) → Accounts t key now uses → is_unused_at t.entries t.lives key ≡ true → HaveRested (least_rest key.protocol) now uses
uses-unused t key now uses a h =
    accounts-unused key.protocol a.0 now uses a.2 (sym a.1.2.unused ∙ ap is_unused_by (sym a.1.1) ∙ h)
