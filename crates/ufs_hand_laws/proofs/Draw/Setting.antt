-- A draw of an entry on a sound state: the tree that it is drawn in, and what it leaves as it is.
use Rattle.std.proofs.Common.{◌≡◌, ℕ, suc, ◌<◌, ◌≤◌, ◌≢◌, ◌⊎◌, true, false, not, eqb, List, [], ◌∷◌, ◌++◌, Option, Some, None, is_some, sym, refl, ap, subst, inl, inr, ⊎_elim, arith}
use Rattle.std.specs.FinMap as fin
use mathlib.Core.Option.{some}
use native.Mathlib.Decide.{ℕ_discrete}
use lib.ListN.{get_elem?}
use Rattle.ufs_model.specs.PosixTree.{PosixTree, IsTree, desc_at}
use Rattle.ufs_model.specs.History.{goes_on, tree_after, is_excused}
use Rattle.ufs_model.specs.Touched.{holds, touched_parts, IsPartOf, IsSamePart}
use Rattle.ufs_model.specs.Laws.{KeepsTrees, Locality}
use Rattle.ufs_model.proofs.Facts.Histories.{tree_after-push}
use Rattle.ufs_model.specs.declared.data.Entry.{Entry}
use Rattle.ufs_model.specs.declared.data.PartName.{PartName}
use Rattle.ufs_model.specs.declared.data.PartName.TheVariants as part
use Rattle.ufs_model.specs.declared.data.Lease.{Lease}
use Rattle.ufs_hand_laws.specs.declared.fresh.Fresh.{Fresh}
use Rattle.ufs_hand_laws.specs.Owned.{one, Has, count}
use Rattle.ufs_model.specs.Laws.{MakesOneFile}
use Rattle.ufs_crash_laws.specs.Changes.{change_of, names_by}
use Rattle.ufs_crash_laws.proofs.Facts.Kinds.{unserved_stays, unserved_names}
use Rattle.ufs_crash_laws.proofs.Facts.Local.{file_untouched, names_untouched}
use Rattle.ufs_crash_laws.proofs.Facts.Contents.{unborn_still}
use Rattle.ufs_hand_laws.specs.Covers.{step_in}
use Rattle.ufs_hand_laws.specs.Parts.{FilePart, NamesPart, View, World, Word, Start, only_one, HoldsPart, is_holder}
use Rattle.ufs_hand_laws.specs.Sound.{IsSound}
use Rattle.ufs_hand_laws.specs.Explained.{Showing}
use Rattle.ufs_hand_laws.specs.Draws.{Leaves, entry_of, client_after, drawn, IsIn, IsAbsent, IsUnchanged, DrawsOn, MayDraw}
use Rattle.ufs_hand_laws.proofs.Owning.{weigh_each, count_has}
use Rattle.ufs_hand_laws.proofs.Keys.{itself, alike}
use Rattle.ufs_hand_laws.proofs.Rising.{next_rises}
use Rattle.ufs_hand_laws.proofs.Covering.{excused_or, tree_served, tree_stays, excused_unserved}
use Rattle.ufs_hand_laws.proofs.Drawing.{touches_own}
use Rattle.ufs_hand_laws.proofs.Exchange.{KeepsNames, world_after, names_are, clients_single}

same_self : (p : PartName) (t : PosixTree) → IsSamePart p t t
same_self (part.Client c) t = λ fd. refl
same_self (part.Asked c) t = tt
same_self (part.File f) t = refl
same_self part.Names t = (refl, refl, λ c f. refl)
same_self part.Store t = tt

-- a file is there, or not
pub there_or : (t : PosixTree) (g : ℕ) → (is_some (fin.get t.bytes g) ≡ true) ⊎ (fin.get t.bytes g ≡ None)
there_or t g = by (fin.get t.bytes g) refl
  where
    by : (o : Option (List ℕ)) → fin.get t.bytes g ≡ o → (is_some (fin.get t.bytes g) ≡ true) ⊎ (fin.get t.bytes g ≡ None)
    by None e = inr e
    by (Some x) e = inl (ap is_some e)

-- a part is among some, or not
pub file_or : (ps : List PartName) (g : ℕ) → IsPartOf ps (part.File g) ⊎ (IsPartOf ps (part.File g) → ⊥)
file_or [] g = inr (λ e. e)
file_or (p ∷ ps) g = ⊎_elim (λ a. inl (inr a)) (λ not. head p not) (file_or ps g)
  where
    none : (p : PartName) → ((part.File g ≡ p) → ⊥) → (IsPartOf ps (part.File g) → ⊥) → ((part.File g ≡ p) ⊎ IsPartOf ps (part.File g)) ⊎ ((part.File g ≡ p) ⊎ IsPartOf ps (part.File g) → ⊥)
    none p a b = inr (λ x. ⊎_elim a b x)

    of_file : (f : ℕ) → Dec (g ≡ f) → (IsPartOf ps (part.File g) → ⊥) → ((part.File g ≡ part.File f) ⊎ IsPartOf ps (part.File g)) ⊎ ((part.File g ≡ part.File f) ⊎ IsPartOf ps (part.File g) → ⊥)
    of_file f (yes s) not = inl (inl (ap part.File s))
    of_file f (no s) not = none (part.File f) (λ e. s (number e)) not
      where
        number : part.File g ≡ part.File f → g ≡ f
        number e = cc

    head : (p : PartName) → (IsPartOf ps (part.File g) → ⊥) → ((part.File g ≡ p) ⊎ IsPartOf ps (part.File g)) ⊎ ((part.File g ≡ p) ⊎ IsPartOf ps (part.File g) → ⊥)
    head (part.Client c) not = none (part.Client c) (λ e. cc) not
    head (part.Asked c) not = none (part.Asked c) (λ e. cc) not
    head (part.File f) not = of_file f (ℕ_discrete g f) not
    head part.Names not = none part.Names (λ e. cc) not
    head part.Store not = none part.Store (λ e. cc) not

pub names_or : (ps : List PartName) → IsPartOf ps part.Names ⊎ (IsPartOf ps part.Names → ⊥)
names_or [] = inr (λ e. e)
names_or (p ∷ ps) = ⊎_elim (λ a. inl (inr a)) (λ not. head p not) (names_or ps)
  where
    none : (p : PartName) → ((part.Names ≡ p) → ⊥) → (IsPartOf ps part.Names → ⊥) → ((part.Names ≡ p) ⊎ IsPartOf ps part.Names) ⊎ ((part.Names ≡ p) ⊎ IsPartOf ps part.Names → ⊥)
    none p a b = inr (λ x. ⊎_elim a b x)

    head : (p : PartName) → (IsPartOf ps part.Names → ⊥) → ((part.Names ≡ p) ⊎ IsPartOf ps part.Names) ⊎ ((part.Names ≡ p) ⊎ IsPartOf ps part.Names → ⊥)
    head (part.Client c) not = none (part.Client c) (λ e. cc) not
    head (part.Asked c) not = none (part.Asked c) (λ e. cc) not
    head (part.File f) not = none (part.File f) (λ e. cc) not
    head part.Names not = inl (inl refl)
    head part.Store not = none part.Store (λ e. cc) not

-- what a draw is made of
pub record Draw : Type 1 where
  pub keeps : KeepsTrees
  pub local : Locality
  pub makes : MakesOneFile
  pub S : Showing
  pub k : Start
  pub word : Word
  pub views : List View
  pub i : ℕ
  pub v : View
  pub f : Fresh
  pub l : Leaves
  pub known : List Lease
  pub live : (x : Lease) → Has x known → word.clock < x.until
  pub o : IsSound S k word views
  pub at : get_elem? views i ≡ some v
  pub m : MayDraw f v l known

module _ (draw : Draw) where
  abbrev keeps : KeepsTrees
  keeps = draw.keeps

  abbrev local : Locality
  local = draw.local

  abbrev k : Start
  k = draw.k

  abbrev word : Word
  word = draw.word

  abbrev views : List View
  views = draw.views

  abbrev i : ℕ
  i = draw.i

  abbrev v : View
  v = draw.v

  abbrev f : Fresh
  f = draw.f

  abbrev l : Leaves
  l = draw.l

  abbrev live : (x : Lease) → Has x draw.known → draw.word.clock < x.until
  live = draw.live

  abbrev o : IsSound draw.S draw.k draw.word draw.views
  o = draw.o

  abbrev at : get_elem? draw.views draw.i ≡ some draw.v
  at = draw.at

  abbrev m : MayDraw draw.f draw.v draw.l draw.known
  m = draw.m

  abbrev pub e : Entry
  e = entry_of word.tickets f

  abbrev pub before : PosixTree
  before = tree_after k.tree o.history

  abbrev pub after : PosixTree
  after = goes_on before e

  abbrev pub w : View
  w = drawn word.tickets f l v

  abbrev pub next_world : World
  next_world = world_after v w o.world

  abbrev pub longer : List Entry
  longer = o.history ++ e ∷ []

  -- ---- which parts there are

  abbrev pub next_word : Word
  next_word = record { tickets = suc word.tickets; clock = word.clock }

  -- ---- the tree has the hand's parts

  pub is_in : IsIn v before
  is_in = record {
    clients = λ c p x. o.legal.clients c p (o.one_hand.clients.agree i v at c p x);
    files = λ g p x. (o.legal.files g p (o.one_hand.files.agree i v at g p x)).bytes;
    paths = λ u n x. subst (λ (q : NamesPart). q.paths ≡ before.paths) (names_are views i v w at o.world o.one_hand u n x) o.legal.names.paths;
    next = λ u n x. subst (λ (q : NamesPart). q.next ≡ before.next) (names_are views i v w at o.world o.one_hand u n x) o.legal.names.next;
    holds = λ u n x c g. subst (λ (q : NamesPart). is_holder q.holds c g ≡ holds before.fds c g) (names_are views i v w at o.world o.one_hand u n x) (o.holds c g);
  }

  pub self_there : o.world.client f.client ≡ Some m.self
  self_there = o.one_hand.clients.agree i v at f.client m.self m.client

  pub d : DrawsOn f m.self v l before
  d = m.on before o.legal.tree is_in (λ x h. o.leases_true.true' f.client m.self x self_there (m.copies x h) (live x h))

  pub push : tree_after k.tree longer ≡ after
  push = tree_after-push k.tree o.history e

  -- ---- who has which part

  pub client_counts : (n : ℕ) → count eqb n w.clients ≡ count eqb n v.clients
  client_counts n = weigh_each (client_after e l.fds) (λ x. one (eqb n x)) v.clients

  pub names_kept : KeepsNames v w
  names_kept = record { clients = client_counts; asked = λ n. refl; pools = λ n. refl; names = m.names; store = λ n. refl }

  pub fresh_files : (g : ℕ) → count eqb g v.files ≡ 0 → 1 ≤ count eqb g l.files → o.world.file g ≡ None
  fresh_files g z c = by (o.world.file g) refl
    where
      by : (x : Option FilePart) → o.world.file g ≡ x → o.world.file g ≡ None
      by None n = n
      by (Some p) n = let b = d.other g z (ap is_some (o.legal.files g p n).bytes) in absurd (omega arith)

  pub single_clients : (n : ℕ) → count eqb n w.clients ≤ 1
  single_clients = clients_single views i v w at o.world o.one_hand names_kept

  own_client : 1 ≤ count eqb f.client v.clients
  own_client = count_has eqb itself alike f.client m.self v.clients m.client

  pub other_client : (c : ℕ) → count eqb c v.clients ≡ 0 → c ≢ f.client
  other_client c z is = let a : count eqb c v.clients ≡ count eqb f.client v.clients = ap (λ n. count eqb n v.clients) is in let b = own_client in absurd (omega arith)

  -- ---- what isn't touched stays

  stays : (p : PartName) → (is_excused f.reply ≡ false → IsPartOf (touched_parts before f.client f.op) p → ⊥) → IsSamePart p before after
  stays p not = ⊎_elim
      (λ x. subst (IsSamePart p before) (sym (tree_stays before f.client f.op f.reply x)) (same_self p before))
      (λ x. subst (IsSamePart p before) (sym (tree_served before f.client f.op f.reply x)) ((local before before f.client f.op o.legal.tree o.legal.tree (λ q _. same_self q before)).others p (not x)))
      (excused_or f.reply)

  pub descs_stay : (c : ℕ) → c ≢ f.client → (fd : ℕ) → desc_at before c fd ≡ desc_at after c fd
  descs_stay c ne = stays (part.Client c) (λ x t. ne (touches_own before f.client f.op c t))

  abbrev touched : List PartName
  touched = touched_parts before f.client f.op

  -- a file that is there and that the hand hasn't stays as it is
  file_kept : (g : ℕ) → count eqb g v.files ≡ 0 → is_some (fin.get before.bytes g) ≡ true → (fin.get before.bytes g ≡ fin.get after.bytes g) × (change_of g (step_in before e) ≡ [])
  file_kept g z there = ⊎_elim
      (λ x. (stays (part.File g) (λ u _. excused_not x u), unserved_stays (step_in before e) g (excused_unserved f.reply x)))
      (λ x. ⊎_elim (λ t. by_hand (d.touched x (part.File g) t))
      (λ not. (stays (part.File g) (λ u t. not t), file_untouched before e d.replied g not))
      (file_or touched g))
      (excused_or f.reply)
    where
      excused_not : is_excused f.reply ≡ true → is_excused f.reply ≡ false → ⊥
      excused_not a b = cc

      by_hand : HoldsPart (part.File g) v ⊎ (IsAbsent (part.File g) before ⊎ IsUnchanged (part.File g) before (entry_of 0 f)) → (fin.get before.bytes g ≡ fin.get after.bytes g) × (change_of g (step_in before e) ≡ [])
      by_hand (inl h) = let c : 1 ≤ count eqb g v.files = h in absurd (omega arith)
      by_hand (inr (inl a)) = let b = ap is_some a in cc
      by_hand (inr (inr u)) = u

  pub file_stays : (g : ℕ) → count eqb g v.files ≡ 0 → is_some (fin.get before.bytes g) ≡ true → fin.get before.bytes g ≡ fin.get after.bytes g
  file_stays g z there = (file_kept g z there).0

  pub unchanged : (g : ℕ) → count eqb g v.files ≡ 0 → is_some (fin.get before.bytes g) ≡ true → change_of g (step_in before e) ≡ []
  unchanged g z there = (file_kept g z there).1

  names_kept_as : count only_one tt v.names ≡ 0 → IsSamePart part.Names before after × (names_by (step_in before e) ≡ [])
  names_kept_as z = ⊎_elim
      (λ x. (stays part.Names (λ u _. excused_not x u), unserved_names (step_in before e) (excused_unserved f.reply x)))
      (λ x. ⊎_elim (λ t. by_hand (d.touched x part.Names t))
      (λ not. (stays part.Names (λ u t. not t), names_untouched before e d.replied not))
      (names_or touched))
      (excused_or f.reply)
    where
      excused_not : is_excused f.reply ≡ true → is_excused f.reply ≡ false → ⊥
      excused_not a b = cc

      by_hand : HoldsPart part.Names v ⊎ (IsAbsent part.Names before ⊎ IsUnchanged part.Names before (entry_of 0 f)) → IsSamePart part.Names before after × (names_by (step_in before e) ≡ [])
      by_hand (inl h) = let c : 1 ≤ count only_one tt v.names = h in absurd (omega arith)
      by_hand (inr (inl a)) = absurd a
      by_hand (inr (inr u)) = u

  pub names_same : count only_one tt v.names ≡ 0 → IsSamePart part.Names before after
  names_same z = (names_kept_as z).0

  pub names_unchanged : count only_one tt v.names ≡ 0 → names_by (step_in before e) ≡ []
  names_unchanged z = (names_kept_as z).1

  pub unborn_unchanged : (g : ℕ) → before.next ≤ g → change_of g (step_in before e) ≡ []
  unborn_unchanged g le = unborn_still before o.legal.tree e g le

  pub rising : before.next ≤ after.next
  rising = ⊎_elim
      (λ x. let a = ap (λ (t : PosixTree). t.next) (tree_stays before f.client f.op f.reply x) in omega arith)
      (λ x. let a = ap (λ (t : PosixTree). t.next) (tree_served before f.client f.op f.reply x) in let b = next_rises before f.client f.op in omega arith)
      (excused_or f.reply)

  pub tree_kept : IsTree after
  tree_kept = ⊎_elim
      (λ x. subst IsTree (sym (tree_stays before f.client f.op f.reply x)) o.legal.tree)
      (λ x. subst IsTree (sym (tree_served before f.client f.op f.reply x)) (keeps before f.client f.op o.legal.tree))
      (excused_or f.reply)

-- ---- by short names, for the files of the letters

pub record Outcome (draw : Draw) : Type 0 where
  pub e : Entry
  pub before : PosixTree
  pub after : PosixTree
  pub w : View
  pub next_world : World
  pub longer : List Entry
  pub next_word : Word
  pub d : DrawsOn draw.f draw.m.self draw.v draw.l (tree_after draw.k.tree draw.o.history)

abbrev pub outcome : (draw : Draw) → Outcome draw
outcome draw = record { e = e draw; before = before draw; after = after draw; w = w draw; next_world = next_world draw; longer = longer draw; next_word = next_word draw; d = d draw }
