-- A `sync` is answered by a guest that has the names and every live file meanwhile.
use Rattle.std.proofs.Common.{◌≡◌, ℕ, ◌+◌, ◌≤◌, ◌++◌, inl, inr, eqb, eqb-true, cond, Bool, true, false, List, [], ◌∷◌, sym, refl, ap, ◌∙◌, subst, arith}
use Rattle.std.proofs.lemmas.List.{append-nil}
use Rattle.ufs_bitmap.specs.Blocks.{BlockSet}
use Rattle.ufs_joint.specs.KnownDraws.{ExcusesStayKept}
use Rattle.ufs_model.specs.Excuses.{ExcuseFits}
use Rattle.ufs_model.specs.History.{IsExcused, IsReplyTo, is_excused, tree_after}
use Rattle.ufs_model.specs.PosixTree.{PosixTree}
use Rattle.ufs_model.specs.declared.data.Actor.{Actor}
use Rattle.ufs_model.specs.declared.data.Ask.{Ask}
use Rattle.ufs_model.specs.declared.data.Entry.{Entry}
use Rattle.ufs_model.specs.declared.data.Excuse.{Excuse}
use Rattle.ufs_model.specs.declared.data.Excuse.TheVariants as excuse
use Rattle.ufs_model.specs.declared.data.Op.{Op}
use Rattle.ufs_model.specs.declared.data.Op.TheVariants as op
use Rattle.ufs_model.specs.declared.data.PartName.TheVariants as name
use Rattle.ufs_model.specs.declared.data.Reply.{Reply}
use Rattle.ufs_crash_laws.specs.Changes.{asks_commit}
use Rattle.ufs_hand_laws.specs.Draws.{client_after, entry_of}
use Rattle.ufs_hand_laws.specs.Owned.{Has, count, each, one, times}
use Rattle.ufs_hand_laws.specs.Parts.{ClientPart}
use Rattle.ufs_hand_laws.specs.declared.fresh.Fresh.{Fresh}
use Rattle.ufs_hand_laws.proofs.Keys.{itself}
use Rattle.ufs_promise_laws.specs.Parts.{Parts}
use Rattle.ufs_joint.specs.Cells.{FileCell, NamesCell, Start, View, both_of, given_of}
use Rattle.ufs_joint.specs.Draws.{IsAround, Leaves, MayDraw}
use Rattle.ufs_joint.specs.NamesHands.{AreNumberedOnce, IsNamesHand, IsNextOf, MayAcknowledgeAll, SyncsMayDraw, still_leaves}
use Rattle.ufs_joint.proofs.StillDraws.{may_draw}
use Rattle.ufs_joint.proofs.StillKinds.{excuse_still, names_still}
use Rattle.ufs_held.specs.Asking.{faults_of, is_of_turn}
use Rattle.ufs_held.specs.Drawn.{first_fds, fresh_of}
use Rattle.ufs_held.specs.Together.{AreApartFrom, HasDrawnStill, HasThemToo, still_of, under_numbers}
use Rattle.ufs_held.proofs.Excusing.{its_fault, stop_joined, told_joined}
use Rattle.ufs_noted.specs.Noted.{Noted}
use Rattle.ufs_held_names.specs.Dirs.{IsNamesGuest, answered}
use Rattle.ufs_held_names.specs.HeldNames.{HoldsNames}
use Rattle.ufs_joint.specs.Servers.{IsAlwaysServedSo, IsServer}
use Rattle.ufs_joint.proofs.Served.{by_server}
use Rattle.ufs_held_names.specs.SyncAll.{AllDone, AllRefused, AreAllLive, AsksSync, MayAnswerAll}

-- ---- cells under their numbers

numbered : (cs : List FileCell) (file : ℕ) (c : FileCell) → Has (file, c) (under_numbers cs) → c.value.file.file ≡ file
numbered [] file c has = absurd has
numbered (d ∷ cs) file c (inl e) = ap (λ (p : ℕ × FileCell). p.1.value.file.file) e ∙ sym (ap (λ (p : ℕ × FileCell). p.0) e)
numbered (d ∷ cs) file c (inr has) = numbered cs file c has

there : (cs : List FileCell) (file : ℕ) (c : FileCell) → Has c cs → c.value.file.file ≡ file → Has (file, c) (under_numbers cs)
there [] file c has its = absurd has
there (d ∷ cs) file c (inl e) its = inl (λ i. ((sym its ∙ ap (λ (q : FileCell). q.value.file.file) e) i, e i))
there (d ∷ cs) file c (inr has) its = inr (there cs file c has its)

-- ---- an excuse

sync_fits : (t : PosixTree) (client : ℕ) (x : Excuse) → is_of_turn x ≡ true → ExcuseFits t client op.Sync x
sync_fits t client excuse.Memory e = record { due = λ _. refl; told = tt }
sync_fits t client (excuse.Device fault) e = record { due = λ _. refl; told = tt }
sync_fits t client (excuse.Stopped fault) e = record { due = λ _. refl; told = tt }
sync_fits t client (excuse.Blocks need had) e = absurd cc
sync_fits t client excuse.Inodes e = absurd cc
sync_fits t client (excuse.Extents need) e = absurd cc

-- ---- it may be drawn

module _ (k : Start) (v w : View) (part : ClientPart) (names : NamesCell) (n : ℕ) (pool : BlockSet) (files : List FileCell) (ask : Ask) (by : Actor) (r : Reply) (ticket : ℕ)
    (has : IsNamesGuest ask.client part names n pool v) (asks : AsksSync part ask) (all : AreAllLive names.value files) (too : HasThemToo files v w) (server : IsServer by) where
  abbrev f : Fresh
  f = record { client = ask.client; seq = ask.seq; by = by; op = ask.op; reply = r }

  w_files : w.files ≡ under_numbers files
  w_files = too.files ∙ ap (λ ps. ps ++ under_numbers files) has.files

  who : IsAlwaysServedSo part.fds f
  who = by_server part.fds f asks.needs server

  hand : IsNamesHand w ask.client part names n pool
  hand = record {
    clients = too.clients ∙ has.clients;
    pools = too.pools ∙ has.pools;
    names_are = too.names ∙ has.names;
    files = subst AreNumberedOnce (sym w_files) (record { once = all.once; number = numbered files });
  }

  next : IsNextOf ask.client part f
  next = record { low = asks.low; by_client = refl; asked = asks.asked; seq = asks.seq }

  leaves : still_leaves part w ≡ still_of w
  leaves = λ i. record { fds = first_fds (sym (too.clients ∙ has.clients) i); files = w.files; pools = w.pools; names = w.names }

  pub may_answer_all : SyncsMayDraw k.geometry → ExcusesStayKept → MayAnswerAll k.is_visible names files v r → MayDraw k.geometry k.is_visible w f (still_of w) ticket
  may_answer_all acks stays (AllDone is known each_known) =
      let may : MayAcknowledgeAll k.is_visible w names f = record {
        op_is = asks.op_is;
        done = is;
        known = known;
        each = λ seen file live. (let c = all.live file live in (c.0, subst (Has (file, c.0)) (sym w_files) (there files file c.0 c.1 c.2), each_known c.0 c.1 seen));
      } in
      subst (λ (l : Leaves). MayDraw k.geometry k.is_visible w f l ticket) leaves (acks k.is_visible w ask.client part names n pool f ticket hand next may who)
  may_answer_all acks stays (AllRefused x is kind rest faults stopped committed) =
      let still = excuse_still w f ticket x is
      (λ fault same. subst (λ (fs : List ℕ). 1 ≤ times fault fs) (sym (too.faults ∙ faults)) (told_joined fault (faults_of x) rest (its_fault x (faults_of x) fault refl same)))
      (λ fault same. too.stop fault (stopped fault same))
      (λ fault by same. too.stop fault (committed fault same))
      (λ fault same. ap asks_commit asks.op_is) in
      let due : (start : PosixTree) (history : List Entry) (p : Parts) (rest : BlockSet) → IsAround k.geometry w ticket start history p rest → IsReplyTo (tree_after start history) (entry_of ticket f) =
      λ start history p rest a. inr (subst (λ (q : Reply). IsExcused (tree_after start history) ask.client ask.op q) (sym is) (subst (λ (o : Op). ExcuseFits (tree_after start history) ask.client o x) (sym asks.op_is) (sync_fits (tree_after start history) ask.client x kind))) in
      subst (λ (l : Leaves). MayDraw k.geometry k.is_visible w f l ticket) leaves
      (may_draw k.geometry k.is_visible w ask.client part n pool f ticket (names_still w ask.client part names n pool hand) next still due
      (λ seen s start history p known formed legal fds cells knows on. stays s start history (entry_of ticket f) p known legal (ap is_excused is) on) who)

-- no two files and pools have one number
pub all_apart : (client : ℕ) (part : ClientPart) (names : NamesCell) (n : ℕ) (pool : BlockSet) (files : List FileCell) (v : View) → IsNamesGuest client part names n pool v → AreAllLive names.value files → count eqb n (under_numbers files) ≡ 0 → AreApartFrom v files
all_apart client part names n pool files v has all none j =
    let a = ap (λ ps. count eqb j (ps ++ under_numbers files)) has.files in
    let b = ap (count eqb j) has.pools in
    by (eqb j n) refl a b
  where
    by : (d : Bool) → eqb j n ≡ d → count eqb j (v.files ++ under_numbers files) ≡ count eqb j (under_numbers files) → count eqb j v.pools ≡ one (eqb j n) + 0 → count eqb j (v.files ++ under_numbers files) + count eqb j v.pools ≤ 1
    by true e a b =
        let z : count eqb j (under_numbers files) ≡ 0 = ap (λ (m : ℕ). count eqb m (under_numbers files)) (eqb-true j n e) ∙ none in
        let o = ap one e in
        omega (arith, a, b, z, o)
    by false e a b = let l = all.once j in let o = ap one e in omega (arith, a, b, l, o)

-- ---- and goes back

pub may_joined_all : (own guest : View) (x : Noted) (held : HoldsNames x own) (visible : Bool) (files : List FileCell) (r : Reply) → MayAnswerAll visible held.cell files guest r → MayAnswerAll visible held.cell files (both_of guest (given_of name.Names own)) r
may_joined_all own guest x held visible files r (AllDone is known each_known) = AllDone is known each_known
may_joined_all own guest x held visible files r (AllRefused q is kind rest faults stopped committed) = AllRefused q is kind rest (append-nil guest.faults ∙ faults)
    (λ fault same. stop_joined guest.stop own.stop fault (stopped fault same)) (λ fault same. stop_joined guest.stop own.stop fault (committed fault same))
