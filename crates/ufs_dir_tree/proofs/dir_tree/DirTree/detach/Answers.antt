use Rattle.std.proofs.Common.{◌≡◌, ◌<◌, ℕ, length, List, [], ◌∷◌, Some, ap, sym, subst, ◌∙◌, arith}
use Rattle.std.specs.Option.{option_map}
use Rattle.std.proofs.lemmas.List.{get_or-set_same}
use Rattle.ufs_layout.specs.DentryForm.{free_slot}
use Rattle.ufs_dirs.specs.Directory.{Directory, entry_of}
use Rattle.ufs_dirs.specs.Changes.{with_entry}
use Rattle.ufs_dir_tree.specs.DirTable.{DirTable, IsDirTable, IsMet, IsUsed, no_dir, dir_at, slots_at, found_of}
use Rattle.ufs_dir_tree.specs.DirCalls.{IsBare, StandsAt}
use Rattle.ufs_dir_tree.specs.DirEdits.{KeepsPlaces, dir_in}
use Rattle.ufs_dir_tree.specs.declared.found.Found.TheVariants.{Dir}
use Rattle.ufs_dir_tree.specs.Steps.{Put, GoesBy}
use Rattle.ufs_dir_tree.proofs.MadeSteps.{clear_made}
use Rattle.ufs_dir_tree.proofs.PlaceLemmas.{places_cleared}
use Rattle.ufs_dir_tree.proofs.WalkedTables.{as_table, walked, whole_one}
use Rattle.ufs_dir_tree.proofs.DetachLemmas.{detached_table, detached_loose}
use Rattle.ufs_dir_tree.proofs.FoundEdits.{entry_met}
use Rattle.ufs_dir_tree.proofs.ReachedEdits.{dropped_reached}
use Rattle.ufs_dir_tree.proofs.dir_tree.DirTree.detach.Goals as goal
use Rattle.ufs_dir_tree.proofs.dir_tree.DirTree.detach.Goals.{After-take_out_at}

abbrev before : After-take_out_at → DirTable
before c = record { dirs = c.self.inside.dirs.items; free = c.self.inside.free.free }

abbrev left : After-take_out_at → DirTable
left c = record { dirs = c.take_out_at.new.dirs.items; free = c.self.inside.free.free }

-- a directory for which the name stands has no name
abbrev GoesBare : DirTable → ℕ → List ℕ → Type 0
GoesBare t p x = (i : ℕ) → option_map found_of (entry_of (slots_at t p) x) ≡ Some (Dir i) → IsBare (slots_at t i)

table : (c : After-take_out_at) → IsDirTable (left c)
table c =
    let t = before c in
    let x = c.args.name.now in
    let met = subst (λ (t : DirTable). IsMet t c.args.dir) (sym c.self.view_is) c.requires.met in
    let bare = subst (λ (t : DirTable). GoesBare t c.args.dir x) (sym c.self.view_is) c.requires.may_go in
    let sets = c.take_out_at.ensures.entries in
    let is = c.self.invariant.0 in
    as_table (left c) (detached_table t c.take_out_at.new.dirs.items c.args.dir x sets (walked t is) met.0 met.1)
    (whole_one t (left c) c.args.dir sets.one is.whole c.take_out_at.ensures.whole)
    (dropped_reached t c.take_out_at.new.dirs.items c.args.dir x sets (walked t is) met.0 met.1 (λ i at. bare i (sym (entry_met t met.0 x c.args.dir met.1) ∙ at)) is.reached)

pub invariant_of-self : goal.invariant_of-self
invariant_of-self c =
    let sets = c.take_out_at.ensures.entries in
    (table c, c.self.invariant.1, c.self.invariant.2 ∙ sym sets.one.counted, omega (arith, sets.one.counted, c.self.invariant.3))

pub returns-clause-loose : goal.returns-clause-loose
returns-clause-loose c =
    let met = subst (λ (t : DirTable). IsMet t c.args.dir) (sym c.self.view_is) c.requires.met in
    detached_loose (before c) c.take_out_at.new.dirs.items c.args.dir c.args.name.now c.take_out_at.ensures.entries (walked (before c) c.self.invariant.0) met.0 met.1 c.take_out_at.result.entry c.take_out_at.ensures.was

pub returns-clause-table : goal.returns-clause-table
returns-clause-table c = table c

pub returns-clause-slot : goal.returns-clause-slot
returns-clause-slot c = subst (λ (t : DirTable). StandsAt (dir_at t c.args.dir) c.args.name.now c.take_out_at.result.slot) c.self.view_is c.take_out_at.ensures.slot

pub returns-clause-steps : goal.returns-clause-steps
returns-clause-steps c pool =
    let t : DirTable = record { dirs = c.self.inside.dirs.items; free = c.self.inside.free.free } in
    let new : DirTable = record { dirs = c.take_out_at.new.dirs.items; free = c.self.inside.free.free } in
    let met = subst (λ (t : DirTable). IsMet t c.args.dir) (sym c.self.view_is) c.requires.met in
    let stands = c.take_out_at.ensures.slot in
    subst (λ (t : DirTable). GoesBy t new pool pool (Put c.args.dir c.take_out_at.result.slot free_slot ∷ [])) c.self.view_is
    (clear_made t new c.args.dir c.take_out_at.result.slot met stands.place.slot (ap (λ (ds : List Directory). record { dirs = ds; free = t.free }) c.take_out_at.ensures.freed) pool)

there : (c : After-take_out_at) → c.args.dir < length c.self.inside.dirs.items
there c =
    let t : DirTable = record { dirs = c.self.inside.dirs.items; free = c.self.inside.free.free } in
    let met = subst (λ (t : DirTable). IsMet t c.args.dir) (sym c.self.view_is) c.requires.met in
    let used : IsUsed t c.args.dir = c.self.invariant.0.met met.0 (Dir c.args.dir) met.1 in
    used.within

pub returns-clause-places : goal.returns-clause-places
returns-clause-places c =
    let dirs = c.self.inside.dirs.items in
    let out = c.take_out_at.ensures in
    let at = ap (λ (ds : List Directory). dir_in ds c.args.dir) out.freed ∙ get_or-set_same dirs c.args.dir (with_entry (dir_in dirs c.args.dir) c.take_out_at.result.slot free_slot) no_dir (there c) in
    subst (λ (t : DirTable). KeepsPlaces t.dirs c.take_out_at.new.dirs.items) c.self.view_is
    (places_cleared dirs c.take_out_at.new.dirs.items c.args.dir c.take_out_at.result.slot c.args.name.now out.slot.place.slot at out.entries)
