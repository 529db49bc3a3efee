use Rattle.std.proofs.Common.{ℕ, Option, None, List, sym, subst}
use Rattle.std.specs.Prelude.{IsSome, slice_index_or}
use Rattle.ufs_image.specs.Catalog.{catalog_at}
use Rattle.ufs_start.proofs.names.names_in.Goals as goal

pub all_numbers-requires-clause-sound : goal.all_numbers-requires-clause-sound
all_numbers-requires-clause-sound c =
    let l = c.requires.loaded in
    (l.3, record { found = l.4.found; whole = (c.damage_law.ensures.whole l.3 (catalog_at c.args.geometry.now l.3) l.4.standing.catalog l.4.standing.sound).1 })

pub returns-clause-named : goal.returns-clause-named
returns-clause-named c image u inode inside file =
    subst (λ (files : List (Option ℕ)). IsSome (slice_index_or files inode None)) (sym c.in_ok-names.ensures.files) (c.in_ok-numbers.ensures.named image u inode inside file)
