-- No part of a session has a block, so what the disk holds of blocks is as it was.
use Rattle.std.proofs.Common.{◌≡◌, ℕ, zero, suc, ◌+◌, Bool, List, [], map, Option, unwrap_or, sym, ap, ◌∙◌, refl, arith}
use Rattle.std.specs.Prelude.{slice_get}
use Rattle.std.specs.List.{range_with_len}
use Rattle.std.specs.Ordering.{nat_cmp}
use Rattle.std.specs.FinMap as fin
use Rattle.ufs_model.specs.Start.{PathNodes, start_of}
use Rattle.ufs_hand_laws.specs.Marks.{IsDiskKept}
use Rattle.ufs_hand_laws.specs.Opened.{OpenedDisk, opened_file, opened_view}
use Rattle.ufs_hand_laws.specs.Owned.{Has, times, weigh}
use Rattle.ufs_hand_laws.specs.Parts.{Cells, FilePart, Start, StorePart, View, file_uses, uses}
use Rattle.ufs_hand_laws.proofs.Owning.{none_some}
use Rattle.ufs_one_hand.specs.OneHand.{disk_with, IsStart}

module _ (nodes : PathNodes) (cells : Cells) (is_visible : Bool) where
  abbrev d : OpenedDisk
  d = disk_with nodes cells is_visible

  pub no_blocks : (f : ℕ) → (opened_file d f).blocks ≡ []
  no_blocks f = ap (λ (o : Option (List ℕ)). unwrap_or o []) (fin.get-empty nat_cmp f)

  files_use_none : (b n a : ℕ) → weigh (file_uses b) (map (λ f. (f, opened_file d f)) (range_with_len a n)) ≡ 0
  files_use_none b zero a = refl
  files_use_none b (suc n) a = let e : times b (opened_file d a).blocks ≡ 0 = ap (times b) (no_blocks a) in let i = files_use_none b n (a + 1) in omega (arith, e, i)

  pub uses_none : (b : ℕ) → uses b (opened_view d) ≡ 0
  uses_none b = let i = files_use_none b (start_of nodes).next 0 in omega (arith, i)

start_uses : (k : Start) → IsStart k → (b : ℕ) → uses b k.view ≡ 0
start_uses k start b = ap (λ (z : Start). uses b z.view) start.is ∙ uses_none start.nodes start.cells start.is_visible b

pub disk_kept : (k : Start) → IsStart k → (v w : View) (s t : StorePart) → ((g : ℕ) (y : FilePart) → Has (g, y) w.files → y.blocks ≡ []) → IsDiskKept k v w s t
disk_kept k start v w s t bare = record {
  disk = λ b none some. let z = start_uses k start b in absurd (omega (arith, z, some));
  loaded = λ g x y a h place b at out. absurd (none_some b (ap (λ (bs : List ℕ). slice_get bs place) (sym (bare g y h)) ∙ at));
}
