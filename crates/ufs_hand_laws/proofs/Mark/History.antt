-- After a mark the history is the one that it was, and leads to all parts.
use Rattle.std.proofs.Common.{◌≡◌, ℕ, eqb, Some, sym, ◌∙◌, subst, ⊎_elim}
use Rattle.ufs_hand_laws.specs.Owned.{Has, count}
use Rattle.ufs_hand_laws.specs.Parts.{FilePart}
use Rattle.ufs_hand_laws.specs.Legal.{IsOneHistory, FitsFile, FitsNames}
use Rattle.ufs_hand_laws.proofs.Mark.Setting.{Mark, Remade, remaking}

module _ (mark : Mark) where
  open mark use {keeps, S, k, word, views, i, v, w, o, at, m}
  open remaking mark use {remade, single_files, r, names_are_kept, file_case, file_present}

  fits_remade : (g : ℕ) (y : FilePart) → remade.file g ≡ Some y → FitsFile k.tree o.history g y
  fits_remade g y is = ⊎_elim
      (λ (c : (x : FilePart) × Has (g, x) v.files × (o.world.file g ≡ Some x) × Has (g, y) w.files × Remade x y).
      subst (FitsFile k.tree o.history g) (sym c.4) (let z = o.legal.files g c.0 c.2 in record { opening = z.opening; changes = z.changes; bytes = z.bytes }))
      (λ (c : (count eqb g v.files ≡ 0) × (o.world.file g ≡ Some y)). o.legal.files g y c.1) (file_case g y is)

  pub legal_remade : IsOneHistory k o.history remade
  legal_remade = record {
    start = o.legal.start;
    legal = o.legal.legal;
    tree = o.legal.tree;
    clients = o.legal.clients;
    files = fits_remade;
    there = λ g. file_present g ∙ o.legal.there g;
    names = subst (FitsNames k.tree o.history) (sym names_are_kept) (let z = o.legal.names in record { opening = z.opening; changes = z.changes; paths = z.paths; next = z.next });
    next = o.legal.next;
    unborn = o.legal.unborn;
  }
