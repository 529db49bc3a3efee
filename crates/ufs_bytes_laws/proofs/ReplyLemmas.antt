-- Replies that are the same but for the bytes that they give.
use Rattle.std.proofs.Common.{◌≡◌, ◌⊎◌, inl, inr, ℕ, List, length, replicate, ap, sym, refl, ◌∙◌}
use Rattle.std.proofs.lemmas.List.{length-replicate}
use Rattle.ufs_model.specs.declared.data.Reply.{Reply}
use Rattle.ufs_model.specs.declared.data.Reply.TheVariants.{Got}
use Rattle.ufs_bytes_laws.specs.Alike.{AreRepliesAlike, blank}
use Rattle.ufs_bytes_laws.specs.Laws.{GiveAsMany, RepliesDifferInBytes}

-- as many bytes
pub got : (v w : List ℕ) → length v ≡ length w → AreRepliesAlike (Got v) (Got w)
got v w e = ap (λ n. Got (replicate n 0)) e

-- the bytes of a reply that gives these
given : (v w : List ℕ) → Got v ≡ Got w → length v ≡ length w
given v w e = let same : v ≡ w = cc in ap length same

zeros : (v w : List ℕ) → Got (replicate (length v) 0) ≡ Got (replicate (length w) 0) → length v ≡ length w
zeros v w e = sym (length-replicate (length v) 0) ∙ given _ _ e ∙ length-replicate (length w) 0

-- it stays without its bytes, or it gives some
parted : (r : Reply) → (blank r ≡ r) ⊎ ((bytes : List ℕ) × (r ≡ Got bytes))
parted (Got bytes) = inr (bytes, refl)
parted r = inl refl

pub replies : RepliesDifferInBytes
replies a b e = by (parted a) (parted b)
  where
    by : (blank a ≡ a) ⊎ ((bytes : List ℕ) × (a ≡ Got bytes)) → (blank b ≡ b) ⊎ ((bytes : List ℕ) × (b ≡ Got bytes)) → (a ≡ b) ⊎ GiveAsMany a b
    by (inl p) (inl q) = inl (sym p ∙ e ∙ q)
    by (inl p) (inr is) = inr (record {
      left = replicate (length is.0) 0;
      right = is.0;
      is_left = sym p ∙ e ∙ ap blank is.1;
      is_right = is.1;
      count = length-replicate (length is.0) 0;
    })
    by (inr is) (inl q) = inr (record {
      left = is.0;
      right = replicate (length is.0) 0;
      is_left = is.1;
      is_right = sym q ∙ sym e ∙ ap blank is.1;
      count = sym (length-replicate (length is.0) 0);
    })
    by (inr is) (inr so) = inr (record {
      left = is.0;
      right = so.0;
      is_left = is.1;
      is_right = so.1;
      count = zeros is.0 so.0 (sym (ap blank is.1) ∙ e ∙ ap blank so.1);
    })
