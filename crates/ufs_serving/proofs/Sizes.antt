-- The size of a file behind a request, and the blocks that it needs for it.
use Rattle.std.proofs.Common.{◌≡◌, ℕ, ◌+◌, ◌-◌, ◌≤◌, ◌<◌, ◌⊎◌, inl, inr, Bool, true, false, ◌&&◌, cond, eqb, ltb, max, List, length, Option, Some, None, refl, sym, ap, ◌∙◌, arith}
use Rattle.std.proofs.lemmas.Bool.{ltb-false, ltb-true}
use Rattle.ufs_base.specs.Choices.{first_of, refused_if}
use Rattle.ufs_extent.specs.Runs.{blocks_of}
use Rattle.ufs_file.specs.Content.{Content, block_count}
use Rattle.ufs_file.specs.Hand.{FileState, content_after, content_put, content_sized, missing}
use Rattle.ufs_file.proofs.ExcuseLemmas.{size_put, size_sized}
use Rattle.ufs_model.specs.FileBytes.{is_past, max_size, place_of, size_after}
use Rattle.ufs_model.specs.FileCalls.{desc_refusal, file_refusal}
use Rattle.ufs_model.specs.declared.data.Desc.{Desc}
use Rattle.ufs_model.specs.declared.data.Errno.{Errno}
use Rattle.ufs_model.specs.declared.data.Errno.TheVariants.{Efbig}
use Rattle.ufs_model.specs.declared.data.Op.{Op}
use Rattle.ufs_model.specs.declared.data.Op.TheVariants as op

-- a request that isn't refused isn't by its place
second_none : (a b : Option Errno) → first_of a b ≡ None → b ≡ None
second_none None b is = is
second_none (Some e) b is = absurd cc

allowed : (b : Bool) → refused_if b Efbig ≡ None → b ≡ false
allowed true is = absurd cc
allowed false is = refl

fits : (at : ℕ) (fresh : List ℕ) → is_past at fresh ≡ false → (length fresh ≡ 0) ⊎ (at + length fresh ≤ max_size)
fits at fresh = by (ltb 0 (length fresh)) (ltb max_size (at + length fresh)) refl refl
  where
    by : (a b : Bool) → ltb 0 (length fresh) ≡ a → ltb max_size (at + length fresh) ≡ b → (a && b) ≡ false → (length fresh ≡ 0) ⊎ (at + length fresh ≤ max_size)
    by true true x y is = absurd cc
    by true false x y is = inr (ltb-false max_size (at + length fresh) y)
    by false b x y is = inl (let none = ltb-false 0 (length fresh) x in omega (arith, none))

-- a write that isn't past the greatest size
written : (c : Content) (size at : ℕ) (fresh : List ℕ) (result : ℕ) → length c.bytes ≡ size → (length fresh ≡ 0) ⊎ (at + length fresh ≤ max_size) → (length fresh ≡ 0 → result ≡ size)
    → (at + length fresh ≤ max_size → result ≡ size_after size at (length fresh)) → length (content_put c at fresh).bytes ≡ result
written c size at fresh result long (inl none) is end =
    sym (size_put c at fresh) ∙ ap (λ (n : ℕ). size_after (length c.bytes) at n) none ∙ long ∙ sym (is none)
written c size at fresh result long (inr so) is end = sym (size_put c at fresh) ∙ ap (λ (n : ℕ). size_after n at (length fresh)) long ∙ sym (end so)

pub write_behind : (c : Content) (d : Desc) (fd size : ℕ) (fresh : List ℕ) (at result : ℕ) → length c.bytes ≡ size → at ≡ place_of d c.bytes → file_refusal c.bytes d (op.Write fd fresh) ≡ None
    → (length fresh ≡ 0 → result ≡ size) → (at + length fresh ≤ max_size → result ≡ size_after size at (length fresh)) → length (content_after c d (op.Write fd fresh)).bytes ≡ result
write_behind c d fd size fresh at result long place none is end =
    ap (λ (p : ℕ). length (content_put c p fresh).bytes) (sym place)
    ∙ written c size at fresh result long (fits at fresh (ap (λ (p : ℕ). is_past p fresh) place ∙ allowed (is_past (place_of d c.bytes) fresh) (second_none (desc_refusal (Some d) (op.Write fd fresh)) (refused_if (is_past (place_of d c.bytes) fresh) Efbig) none))) is end

pub pwrite_behind : (c : Content) (d : Desc) (fd size : ℕ) (fresh : List ℕ) (at result : ℕ) → length c.bytes ≡ size → file_refusal c.bytes d (op.Pwrite fd fresh at) ≡ None
    → (length fresh ≡ 0 → result ≡ size) → (at + length fresh ≤ max_size → result ≡ size_after size at (length fresh)) → length (content_after c d (op.Pwrite fd fresh at)).bytes ≡ result
pwrite_behind c d fd size fresh at result long none is end =
    written c size at fresh result long (fits at fresh (allowed (is_past at fresh) (second_none (desc_refusal (Some d) (op.Pwrite fd fresh at)) (refused_if (is_past at fresh) Efbig) none))) is end

pub cut_behind : (c : Content) (d : Desc) (fd size : ℕ) → length (content_after c d (op.Trunc fd size)).bytes ≡ size
cut_behind c d fd size = sym (size_sized c size)

pub cut_fits : (bytes : List ℕ) (d : Desc) (fd size : ℕ) → file_refusal bytes d (op.Trunc fd size) ≡ None → size ≤ max_size
cut_fits bytes d fd size none = ltb-false max_size size (allowed (ltb max_size size) (second_none (desc_refusal (Some d) (op.Trunc fd size)) (refused_if (ltb max_size size) Efbig) none))
