-- Sizes of files as these come and go, and lengths of what is cut out of bytes or put into them.
use Rattle.std.proofs.Common.{◌≡◌, ℕ, ◌+◌, ◌-◌, List, ◌++◌, Bool, true, false, cond, length, drop, min, replicate, Option, Some, None, ap, sym, refl, ◌∙◌, unwrap_or, length-append, length-drop}
use Rattle.std.proofs.lemmas.List.{length-take}
use Rattle.std.specs.Prelude.{[], is_some}
use Rattle.std.specs.Option.{option_map}
use Rattle.std.specs.Ordering.{eq_by_cmp, nat_cmp}
use Rattle.std.specs.Cmp.{nat_cmp_total}
use Rattle.std.specs.FinMap as fin
use Rattle.std.specs.FinMap.{get-insert, get-remove}
use Rattle.ufs_model.specs.PosixTree.{Files}
use Rattle.ufs_model.specs.FileBytes.{content, part, put_at, resized, place_of}
use Rattle.ufs_model.specs.declared.data.Desc.{Desc}
use Rattle.ufs_bytes_laws.specs.Alike.{HaveSameSizes}

-- ---- one file's

pub both_some : (x y : Option (List ℕ)) → option_map length x ≡ option_map length y → is_some x ≡ is_some y
both_some None None e = refl
both_some None (Some w) e = cc
both_some (Some v) None e = cc
both_some (Some v) (Some w) e = refl

length_or_none : (x y : Option (List ℕ)) → option_map length x ≡ option_map length y → length (unwrap_or x []) ≡ length (unwrap_or y [])
length_or_none None None e = refl
length_or_none None (Some w) e = cc
length_or_none (Some v) None e = cc
length_or_none (Some v) (Some w) e = cc

-- ---- all files'

module _ (a b : Files) (same : HaveSameSizes a b) where
  pub content_size : (file : Option ℕ) → length (content a file) ≡ length (content b file)
  content_size None = refl
  content_size (Some file) = length_or_none (fin.get a file) (fin.get b file) (same file)

  pub sizes_put : (file : ℕ) (v w : List ℕ) → length v ≡ length w → HaveSameSizes (fin.insert a file v) (fin.insert b file w)
  sizes_put file v w e f =
      ap (option_map length) (get-insert nat_cmp_total a file v f)
      ∙ by (eq_by_cmp nat_cmp f file)
      ∙ sym (ap (option_map length) (get-insert nat_cmp_total b file w f))
    where
      by : (here : Bool) → option_map length (cond here (Some v) (fin.get a f)) ≡ option_map length (cond here (Some w) (fin.get b f))
      by true = ap Some e
      by false = same f

  pub sizes_gone : (file : ℕ) → HaveSameSizes (fin.remove a file) (fin.remove b file)
  sizes_gone file f =
      ap (option_map length) (get-remove nat_cmp_total a file f)
      ∙ by (eq_by_cmp nat_cmp f file)
      ∙ sym (ap (option_map length) (get-remove nat_cmp_total b file f))
    where
      by : (here : Bool) → option_map length (cond here None (fin.get a f)) ≡ option_map length (cond here None (fin.get b f))
      by true = refl
      by false = same f

-- ---- lengths of bytes

module _ (old other : List ℕ) (e : length old ≡ length other) where
  pub part_size : (at n : ℕ) → length (part old at n) ≡ length (part other at n)
  part_size at n = sizes old ∙ ap (λ count. min n (count - at)) e ∙ sym (sizes other)
    where
      sizes : (bytes : List ℕ) → length (part bytes at n) ≡ min n (length bytes - at)
      sizes bytes = length-take n (drop at bytes) ∙ ap (min n) (length-drop at bytes)

  abbrev zeros : ℕ → List ℕ
  zeros n = replicate n 0

  -- extended with zeros to a place
  extended_size : (at : ℕ) → length (old ++ replicate (at - length old) 0) ≡ length (other ++ replicate (at - length other) 0)
  extended_size at =
      length-append old (replicate (at - length old) 0)
      ∙ ap (λ n. n + length (zeros (at - n))) e
      ∙ sym (length-append other (replicate (at - length other) 0))

  -- and the first bytes of that
  pub resized_size : (at : ℕ) → length (resized old at) ≡ length (resized other at)
  resized_size at = length-take at (old ++ replicate (at - length old) 0) ∙ ap (min at) (extended_size at) ∙ sym (length-take at (other ++ replicate (at - length other) 0))

  pub put_size : (at : ℕ) (fresh : List ℕ) → length (put_at old at fresh) ≡ length (put_at other at fresh)
  put_size at fresh =
      length-append (resized old at ++ fresh) (drop (at + length fresh) old)
      ∙ (λ i. front i + rest i)
      ∙ sym (length-append (resized other at ++ fresh) (drop (at + length fresh) other))
    where
      front : length (resized old at ++ fresh) ≡ length (resized other at ++ fresh)
      front = length-append (resized old at) fresh ∙ ap (λ n. n + length fresh) (resized_size at) ∙ sym (length-append (resized other at) fresh)

      rest : length (drop (at + length fresh) old) ≡ length (drop (at + length fresh) other)
      rest = length-drop (at + length fresh) old ∙ ap (λ n. n - (at + length fresh)) e ∙ sym (length-drop (at + length fresh) other)

  pub place_same : (d : Desc) → place_of d old ≡ place_of d other
  place_same d = ap (λ n. cond d.append n d.at) e
