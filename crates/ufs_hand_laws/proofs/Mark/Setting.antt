-- What an event without an entry makes of the parts of all hands.
use Rattle.std.proofs.Common.{◌≡◌, ℕ, ◌≤◌, ◌⊎◌, eqb, List, Some, sym, refl, ap, ◌∙◌, subst, inl, inr, ⊎_elim, arith}
use mathlib.Core.Option.{some}
use lib.ListN.{get_elem?}
use Rattle.ufs_model.specs.Laws.{KeepsTrees}
use Rattle.ufs_hand_laws.specs.Owned.{present, Has, count, replaced}
use Rattle.ufs_hand_laws.specs.Parts.{FilePart, NamesPart, StorePart, View, World, Word, Start, only_one}
use Rattle.ufs_hand_laws.specs.Sound.{IsSound}
use Rattle.ufs_hand_laws.specs.Explained.{Showing}
use Rattle.ufs_hand_laws.specs.Marks.{IsSingle, StoreGoes, NamesGo, RemakesOn, MayRemake}
use Rattle.ufs_hand_laws.proofs.Owning.{replaced_back, replaced_present, once_in}
use Rattle.ufs_hand_laws.proofs.Keys.{itself, alike, one_itself, one_alike}
use Rattle.ufs_hand_laws.proofs.Exchange.{value_after, value_case, names_are, store_is}

-- what a mark is made of
pub record Mark : Type 1 where
  pub keeps : KeepsTrees
  pub S : Showing
  pub k : Start
  pub word : Word
  pub views : List View
  pub i : ℕ
  pub v : View
  pub w : View
  pub o : IsSound S k word views
  pub at : get_elem? views i ≡ some v
  pub m : MayRemake S k word.tickets v w

-- A file goes on, but for what no history tells.
abbrev pub Remade : FilePart → FilePart → Type 0
Remade x y = y ≡ record x { blocks = y.blocks; quarantine = y.quarantine; spare = y.spare; loaded = y.loaded; born = y.born; known = y.known }

module _ (mark : Mark) where
  open mark use {keeps, S, k, word, views, i, v, w, o, at, m}

  abbrev pub remade : World
  remade = record o.world {
    file = replaced eqb v.files w.files o.world.file;
    pool = replaced eqb v.pools w.pools o.world.pool;
    names = value_after w.names o.world.names;
    store = value_after w.store o.world.store;
  }

  names_count : count only_one tt w.names ≤ 1
  names_count = let a = once_in only_one one_itself one_alike (λ (u : View). u.names) (λ _. Some o.world.names) views i v at o.one_hand.names tt in let b = m.has_names tt in omega arith

  store_count : count only_one tt w.store ≤ 1
  store_count = let a = once_in only_one one_itself one_alike (λ (u : View). u.store) (λ _. Some o.world.store) views i v at o.one_hand.store tt in let b = m.has_store tt in omega arith

  pub single_files : (g : ℕ) → count eqb g w.files ≤ 1
  single_files g = let a = once_in eqb itself alike (λ (u : View). u.files) o.world.file views i v at o.one_hand.files g in let b = m.file_names g in omega arith

  v_single : IsSingle v
  v_single = record {
    files = λ g. once_in eqb itself alike (λ (u : View). u.files) o.world.file views i v at o.one_hand.files g;
    names = once_in only_one one_itself one_alike (λ (u : View). u.names) (λ _. Some o.world.names) views i v at o.one_hand.names tt;
    store = once_in only_one one_itself one_alike (λ (u : View). u.store) (λ _. Some o.world.store) views i v at o.one_hand.store tt;
  }

  store_goes : StoreGoes v w o.world.store remade.store
  store_goes = (
    ⊎_elim (λ (x : (count only_one tt v.store ≡ 0) × (value_after v.store o.world.store ≡ o.world.store)). sym x.1)
        (λ (x : (t : StorePart) × Has (tt, t) v.store × (value_after v.store o.world.store ≡ t)). store_is views i v w at o.world o.one_hand tt x.0 x.1 ∙ sym x.2)
        (value_case v.store o.world.store v_single.store),
    refl,
  )

  names_go : NamesGo v w o.world.names remade.names
  names_go = (
    ⊎_elim (λ (x : (count only_one tt v.names ≡ 0) × (value_after v.names o.world.names ≡ o.world.names)). sym x.1)
        (λ (x : (t : NamesPart) × Has (tt, t) v.names × (value_after v.names o.world.names ≡ t)). names_are views i v w at o.world o.one_hand tt x.0 x.1 ∙ sym x.2)
        (value_case v.names o.world.names v_single.names),
    refl,
  )

  pub r : RemakesOn S k word.tickets v w o.world.store remade.store o.world.names remade.names
  r = m.on v_single o.world.store remade.store o.world.names remade.names store_goes names_go

  -- the names go on as before, but for what no history tells
  pub names_are_kept : remade.names ≡ record o.world.names { born = remade.names.born; blocks = remade.names.blocks; dropped = remade.names.dropped; spare = remade.names.spare; known = remade.names.known }
  names_are_kept = ⊎_elim
      (λ (x : (count only_one tt w.names ≡ 0) × (remade.names ≡ o.world.names)).
      let e = x.1 in λ j. record (e j) { born = remade.names.born; blocks = remade.names.blocks; dropped = remade.names.dropped; spare = remade.names.spare; known = remade.names.known })
      (λ (x : (t : NamesPart) × Has (tt, t) w.names × (remade.names ≡ t)).
      let y = m.names tt remade.names (subst (λ z. Has (tt, z) w.names) (sym x.2) x.1) in
      y.2 ∙ ap (λ (z : NamesPart). record z { born = remade.names.born; blocks = remade.names.blocks; dropped = remade.names.dropped; spare = remade.names.spare; known = remade.names.known })
      (sym (names_are views i v w at o.world o.one_hand tt y.0 y.1)))
      (value_case w.names o.world.names names_count)

  pub file_case : (g : ℕ) (y : FilePart) → remade.file g ≡ Some y → ((x : FilePart) × Has (g, x) v.files × (o.world.file g ≡ Some x) × Has (g, y) w.files × Remade x y) ⊎ ((count eqb g v.files ≡ 0) × (o.world.file g ≡ Some y))
  file_case g y is = ⊎_elim
      (λ h. let x = m.files g y h in inl (x.0, x.1, o.one_hand.files.agree i v at g x.0 x.1, h, x.2))
      (λ (z : (count eqb g v.files ≡ 0) × (count eqb g w.files ≡ 0) × (o.world.file g ≡ Some y)). inr (z.0, z.2))
      (replaced_back eqb itself alike v.files w.files o.world.file single_files g y is)

  pub file_present : (g : ℕ) → present (remade.file g) ≡ present (o.world.file g)
  file_present g = replaced_present eqb itself alike (λ (u : View). u.files) o.world.file views i v w at o.one_hand.files g (m.file_names g)

-- ---- by short names, for the files of the letters

pub record Remaking (mark : Mark) : Type 0 where
  pub remade : World
  pub single_files : (g : ℕ) → count eqb g mark.w.files ≤ 1
  pub r : RemakesOn mark.S mark.k mark.word.tickets mark.v mark.w mark.o.world.store remade.store mark.o.world.names remade.names
  pub names_are_kept : remade.names ≡ record mark.o.world.names { born = remade.names.born; blocks = remade.names.blocks; dropped = remade.names.dropped; spare = remade.names.spare; known = remade.names.known }
  pub file_case : (g : ℕ) (y : FilePart) → remade.file g ≡ Some y
      → ((x : FilePart) × Has (g, x) mark.v.files × (mark.o.world.file g ≡ Some x) × Has (g, y) mark.w.files × Remade x y) ⊎ ((count eqb g mark.v.files ≡ 0) × (mark.o.world.file g ≡ Some y))
  pub file_present : (g : ℕ) → present (remade.file g) ≡ present (mark.o.world.file g)

abbrev pub remaking : (mark : Mark) → Remaking mark
remaking mark = record { remade = remade mark; single_files = single_files mark; r = r mark; names_are_kept = names_are_kept mark; file_case = file_case mark; file_present = file_present mark }
