-- What leases that come and go make of the parts of all hands.
use Rattle.std.proofs.Common.{◌≡◌, ℕ, ◌≤◌, ◌⊎◌, Bool, true, false, cond, eqb, eqb-true, List, [], ◌∷◌, ◌++◌, Option, Some, None, sym, refl, ap, ◌∙◌, subst, inl, inr, ⊎_elim, arith, append-nil}
use Rattle.std.specs.Prelude.{filter}
use mathlib.Core.Option.{some}
use lib.ListN.{get_elem?}
use Rattle.ufs_model.specs.declared.data.Lease.{Lease}
use Rattle.ufs_model.specs.declared.data.PartName.{PartName}
use Rattle.ufs_model.specs.declared.data.PartName.TheVariants as name
use Rattle.ufs_hand_laws.specs.Owned.{one, present, Has, count, each, replaced}
use Rattle.ufs_hand_laws.specs.Parts.{ClientPart, FilePart, NamesPart, View, World, Word, Start, only_one, is_file, is_names}
use Rattle.ufs_hand_laws.specs.Sound.{IsSound}
use Rattle.ufs_hand_laws.specs.Explained.{Showing}
use Rattle.ufs_hand_laws.proofs.Owning.{has_each, weigh_each, replaced_back, replaced_present, once_in}
use Rattle.ufs_hand_laws.proofs.Keys.{itself, alike}
use Rattle.ufs_hand_laws.proofs.Exchange.{value_after, value_case, names_are}

-- ---- small facts

pub with_copies : (p q : ClientPart) (a b : List Lease) → p ≡ q → a ≡ b → ◌≡◌ {A = ClientPart} (record p { copies = a }) (record q { copies = b })
with_copies p q a b e f = λ j. record (e j) { copies = f j }

pub file_with : (p q : FilePart) (a b : List Lease) → p ≡ q → a ≡ b → ◌≡◌ {A = FilePart} (record p { leases = a }) (record q { leases = b })
file_with p q a b e f = λ j. record (e j) { leases = f j }

pub names_with : (p q : NamesPart) (a b : List Lease) → p ≡ q → a ≡ b → ◌≡◌ {A = NamesPart} (record p { leases = a }) (record q { leases = b })
names_with p q a b e f = λ j. record (e j) { leases = f j }

pub has_kept : (keep : Lease → Bool) (x : Lease) (xs : List Lease) → keep x ≡ true → Has x xs → Has x (filter keep xs)
has_kept keep x [] k h = absurd h
has_kept keep x (y ∷ xs) k (inl e) = subst (λ b. Has x (cond b (y ∷ filter keep xs) (filter keep xs))) (sym k ∙ ap keep e) (inl e)
has_kept keep x (y ∷ xs) k (inr h) = at (keep y) (has_kept keep x xs k h)
  where
    at : (b : Bool) → Has x (filter keep xs) → Has x (cond b (y ∷ filter keep xs) (filter keep xs))
    at true r = inr r
    at false r = r

pub each_same : {K D : Type 0} (ps : List (K × D)) → each (λ n p. p) ps ≡ ps
each_same [] = refl
each_same (p ∷ ps) = ap (λ l. p ∷ l) (each_same ps)

pub file_is : (p : PartName) (g : ℕ) → is_file p g ≡ true → p ≡ name.File g
file_is (name.File f) g e = ap name.File (eqb-true f g e)
file_is name.Names g e = cc
file_is (name.Client c) g e = cc
file_is (name.Asked c) g e = cc
file_is name.Store g e = cc

pub names_is : (p : PartName) (u : Unit {0}) → is_names p u ≡ true → p ≡ name.Names
names_is (name.File f) g e = cc
names_is name.Names g e = refl
names_is (name.Client c) g e = cc
names_is (name.Asked c) g e = cc
names_is name.Store g e = cc

pub copied : (l : Lease) (b : Bool) (p : ClientPart) → cond b (record p { copies = p.copies ++ l ∷ [] }) p ≡ record p { copies = (cond b (record p { copies = p.copies ++ l ∷ [] }) p).copies }
copied l true p = refl
copied l false p = refl

pub grown : (l : Lease) (b : Bool) (p : ClientPart) → (more : List Lease) × ((cond b (record p { copies = p.copies ++ l ∷ [] }) p).copies ≡ p.copies ++ more)
grown l true p = (l ∷ [], refl)
grown l false p = ([], sym (append-nil p.copies))

module _ (go : List Lease → List Lease) where
  pub file_goes : (b : Bool) (x : FilePart) → cond b (record x { leases = go x.leases }) x ≡ record x { leases = (cond b (record x { leases = go x.leases }) x).leases }
  file_goes true x = refl
  file_goes false x = refl

  pub names_go : (b : Bool) (x : NamesPart) → cond b (record x { leases = go x.leases }) x ≡ record x { leases = (cond b (record x { leases = go x.leases }) x).leases }
  names_go true x = refl
  names_go false x = refl

-- What changes are copies of clients, to which some come, and leases of files and of the names.
pub record LeasesGo : Type 0 where
  pub client : ℕ → ClientPart → ClientPart
  pub file : ℕ → FilePart → FilePart
  pub names : Unit {0} → NamesPart → NamesPart
  pub copies : (n : ℕ) (p : ClientPart) → client n p ≡ record p { copies = (client n p).copies }
  pub more : (n : ℕ) (p : ClientPart) → (more : List Lease) × ((client n p).copies ≡ p.copies ++ more)
  pub leases : (g : ℕ) (x : FilePart) → file g x ≡ record x { leases = (file g x).leases }
  pub of_names : (u : Unit {0}) (x : NamesPart) → names u x ≡ record x { leases = (names u x).leases }

-- what a change of leases is made of
pub record LeaseStep : Type 1 where
  pub S : Showing
  pub k : Start
  pub word : Word
  pub views : List View
  pub i : ℕ
  pub v : View
  pub o : IsSound S k word views
  pub at : get_elem? views i ≡ some v
  pub go : LeasesGo

module _ (step : LeaseStep) where
  open step use {S, k, word, views, i, v, o, at, go}

  abbrev pub w : View
  w = record v { clients = each go.client v.clients; files = each go.file v.files; names = each go.names v.names; seen = word.tickets }

  abbrev pub next : World
  next = record o.world { client = replaced eqb v.clients w.clients o.world.client; file = replaced eqb v.files w.files o.world.file; names = value_after w.names o.world.names }

  pub client_counts : (n : ℕ) → count eqb n w.clients ≡ count eqb n v.clients
  client_counts n = weigh_each go.client (λ x. one (eqb n x)) v.clients

  pub file_counts : (n : ℕ) → count eqb n w.files ≡ count eqb n v.files
  file_counts n = weigh_each go.file (λ x. one (eqb n x)) v.files

  pub names_counts : (n : Unit {0}) → count only_one n w.names ≡ count only_one n v.names
  names_counts n = weigh_each go.names (λ x. one (only_one n x)) v.names

  pub single_clients : (n : ℕ) → count eqb n w.clients ≤ 1
  single_clients n = let a = once_in eqb itself alike (λ (u : View). u.clients) o.world.client views i v at o.one_hand.clients n in let b = client_counts n in omega arith

  pub single_files : (n : ℕ) → count eqb n w.files ≤ 1
  single_files n = let a = once_in eqb itself alike (λ (u : View). u.files) o.world.file views i v at o.one_hand.files n in let b = file_counts n in omega arith

  pub single_names : count only_one tt w.names ≤ 1
  single_names = let a = once_in only_one Rattle.ufs_hand_laws.proofs.Keys.one_itself Rattle.ufs_hand_laws.proofs.Keys.one_alike (λ (u : View). u.names) (λ _. Some o.world.names) views i v at o.one_hand.names tt in let b = names_counts tt in omega arith

  pub client_case : (n : ℕ) (p : ClientPart) → next.client n ≡ Some p → (y : ClientPart) × (o.world.client n ≡ Some y) × ((p ≡ y) ⊎ (p ≡ go.client n y))
  client_case n p is = ⊎_elim
      (λ h. let y = has_each go.client n p v.clients h in (y.0, o.one_hand.clients.agree i v at n y.0 y.1, inr (sym y.2)))
      (λ (z : (count eqb n v.clients ≡ 0) × (count eqb n w.clients ≡ 0) × (o.world.client n ≡ Some p)). (p, z.2, inl refl))
      (replaced_back eqb itself alike v.clients w.clients o.world.client single_clients n p is)

  pub client_was : (n : ℕ) (p : ClientPart) → next.client n ≡ Some p → (y : ClientPart) × (o.world.client n ≡ Some y) × (p ≡ record y { copies = p.copies }) × (more : List Lease) × (p.copies ≡ y.copies ++ more)
  client_was n p is = let c = client_case n p is in let g = grown c.0 c.2 in (c.0, c.1, is_so c.0 c.2, g.0, g.1)
    where
      is_so : (y : ClientPart) → (p ≡ y) ⊎ (p ≡ go.client n y) → p ≡ record y { copies = p.copies }
      is_so y (inl e) = with_copies p y p.copies p.copies e refl
      is_so y (inr e) = e ∙ go.copies n y ∙ with_copies y y (go.client n y).copies p.copies refl (ap (λ (q : ClientPart). q.copies) (sym e))

      grown : (y : ClientPart) → (p ≡ y) ⊎ (p ≡ go.client n y) → (more : List Lease) × (p.copies ≡ y.copies ++ more)
      grown y (inl e) = ([], ap (λ (q : ClientPart). q.copies) e ∙ sym (append-nil y.copies))
      grown y (inr e) = let m = go.more n y in (m.0, ap (λ (q : ClientPart). q.copies) e ∙ m.1)

  pub file_was : (g : ℕ) (x : FilePart) → next.file g ≡ Some x → (y : FilePart) × (o.world.file g ≡ Some y) × (x ≡ record y { leases = x.leases })
  file_was g x is = ⊎_elim
      (λ h. let y = has_each go.file g x v.files h in
      (y.0, o.one_hand.files.agree i v at g y.0 y.1, sym y.2 ∙ go.leases g y.0 ∙ file_with y.0 y.0 (go.file g y.0).leases x.leases refl (ap (λ (q : FilePart). q.leases) y.2)))
      (λ (z : (count eqb g v.files ≡ 0) × (count eqb g w.files ≡ 0) × (o.world.file g ≡ Some x)). (x, z.2, refl))
      (replaced_back eqb itself alike v.files w.files o.world.file single_files g x is)

  pub names_case : (next.names ≡ o.world.names) ⊎ ((y : NamesPart) × (o.world.names ≡ y) × (next.names ≡ go.names tt y))
  names_case = ⊎_elim
      (λ (x : (count only_one tt w.names ≡ 0) × (next.names ≡ o.world.names)). inl x.1)
      (λ (x : (t : NamesPart) × Has (tt, t) w.names × (next.names ≡ t)).
      let y = has_each go.names tt x.0 v.names x.1 in inr (y.0, names_are views i v w at o.world o.one_hand tt y.0 y.1, x.2 ∙ sym y.2))
      (value_case w.names o.world.names single_names)

  pub names_were : next.names ≡ record o.world.names { leases = next.names.leases }
  names_were = ⊎_elim
      (λ e. names_with next.names o.world.names next.names.leases next.names.leases e refl)
      (λ (y : (y : NamesPart) × (o.world.names ≡ y) × (next.names ≡ go.names tt y)).
      y.2 ∙ go.of_names tt y.0 ∙ names_with y.0 o.world.names (go.names tt y.0).leases next.names.leases (sym y.1) (ap (λ (q : NamesPart). q.leases) (sym y.2)))
      names_case

  pub client_present : (n : ℕ) → present (next.client n) ≡ present (o.world.client n)
  client_present n = replaced_present eqb itself alike (λ (u : View). u.clients) o.world.client views i v w at o.one_hand.clients n (client_counts n)

  pub file_present : (g : ℕ) → present (next.file g) ≡ present (o.world.file g)
  file_present g = replaced_present eqb itself alike (λ (u : View). u.files) o.world.file views i v w at o.one_hand.files g (file_counts g)

  pub gone : (g : ℕ) → next.file g ≡ None → o.world.file g ≡ None
  gone g is = at_none (o.world.file g) (sym (file_present g) ∙ ap present is)
    where
      at_none : (z : Option FilePart) → present z ≡ 0 → z ≡ None
      at_none None e = refl
      at_none (Some x) e = absurd (omega arith)

-- ---- by short names, for the files of the letters

pub record Leasing (step : LeaseStep) : Type 0 where
  pub w : View
  pub next : World
  pub client_was : (n : ℕ) (p : ClientPart) → next.client n ≡ Some p → (y : ClientPart) × (step.o.world.client n ≡ Some y) × (p ≡ record y { copies = p.copies }) × (more : List Lease) × (p.copies ≡ y.copies ++ more)
  pub file_was : (g : ℕ) (x : FilePart) → next.file g ≡ Some x → (y : FilePart) × (step.o.world.file g ≡ Some y) × (x ≡ record y { leases = x.leases })
  pub names_were : next.names ≡ record step.o.world.names { leases = next.names.leases }
  pub client_present : (n : ℕ) → present (next.client n) ≡ present (step.o.world.client n)
  pub file_present : (g : ℕ) → present (next.file g) ≡ present (step.o.world.file g)

abbrev pub leasing : (step : LeaseStep) → Leasing step
leasing step = record { w = w step; next = next step; client_was = client_was step; file_was = file_was step; names_were = names_were step; client_present = client_present step; file_present = file_present step }
