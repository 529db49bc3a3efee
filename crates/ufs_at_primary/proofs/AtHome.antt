-- Each live file that the table has at the primary is here, still.
use Rattle.std.proofs.Common.{◌≡◌, ◌≢◌, ◌≤◌, ◌+◌, ℕ, zero, suc, ◌⊎◌, inl, inr, Bool, true, false, cond, List, [], ◌∷◌, Option, Some, None, is_some, length, Result, Ok, Err, OnOk, OnErr, refl, ap, sym, ◌∙◌, subst}
use Rattle.std.specs.Prelude.{IfOk, IfSome, IsSome}
use Rattle.std.specs.Cmp.{nat_cmp_total}
use Rattle.std.specs.FinMap as fin
use Rattle.std.specs.FinMap.{nat_cmp-IsAntisymmetric}
use Rattle.ufs_bitmap.specs.Blocks.{BlockSet}
use Rattle.ufs_held.specs.Asking.{IsSyncReply}
use Rattle.ufs_held_names.specs.Asked.{number_of}
use Rattle.ufs_held_names.specs.Come.{IsNewborn, IsStillThere}
use Rattle.ufs_held_names.specs.HeldNames.{AreCommitted}
use Rattle.ufs_held_names.specs.Reclaims.{IsReclaimed}
use Rattle.ufs_held_names.specs.SyncAll.{StopsShort, AtNames, AtFile}
use Rattle.ufs_home.specs.Home.{HomeState, called_by, called_back, called_for, come_home, come_on, sent}
use Rattle.ufs_home.specs.Lending.{put_all}
use Rattle.ufs_home.specs.Letters.{Boxes, Mailed, RingsGo, gone_from, left_by, left_by_all}
use Rattle.ufs_home.specs.Moves.{IsMoved}
use Rattle.ufs_home.specs.Places.{Places, file_here, in_place}
use Rattle.ufs_home.specs.declared.moved.Moved.{Moved}
use Rattle.ufs_home.specs.declared.moved.Moved.TheVariants as moved
use Rattle.ufs_home.proofs.Shelves.{one_or_other, put_else, put_here}
use Rattle.ufs_joint.specs.Cells.{FileCell, NamesCell, View}
use Rattle.ufs_model.proofs.Facts.Lookups as lookups
use Rattle.ufs_model.proofs.Facts.Lookups.{same_some}
use Rattle.ufs_model.specs.History.{is_excused}
use Rattle.ufs_model.specs.declared.data.Ask.{Ask}
use Rattle.ufs_model.specs.declared.data.Desc.{Desc}
use Rattle.ufs_model.specs.declared.data.Entry.{Entry}
use Rattle.ufs_model.specs.declared.data.Reply.{Reply}
use Rattle.ufs_model.specs.declared.data.Reply.TheVariants as reply
use Rattle.ufs_msg.specs.Answers.{Told}
use Rattle.ufs_msg.specs.Requests.{Asked}
use Rattle.ufs_msg.specs.declared.answer.Answer.{Answer}
use Rattle.ufs_names.specs.NamesPart.{Holdings}
use Rattle.ufs_owner.proofs.OwnerFacts.{has_owner, other_stays, waiting_keeps_owner}
use Rattle.ufs_owner.specs.Owners.{Files, arrived, is_going, owner_at, recalled, standing_at, with_owner, with_waiting}
use Rattle.ufs_owner.specs.declared.owner.Owner.{Owner}
use Rattle.ufs_owner.specs.declared.owner.Owner.TheVariants.{Primary, Worker, Coming, Going}
use Rattle.ufs_owner.specs.declared.owner.Standing.{Standing}
use Rattle.ufs_crash_laws.specs.Changes.{asks_commit}
use Rattle.ufs_at_primary.specs.All.{IsAllSynced, numbers_in}
use Rattle.ufs_at_primary.specs.Dirs.{IsDirDone}
use Rattle.ufs_at_primary.specs.Here.{IsDoneHere}
use Rattle.ufs_at_primary.specs.Named.{IsDoneByNames}
use Rattle.ufs_at_primary.specs.Noted.{unwaited, waited_for}
use Rattle.ufs_at_primary.specs.Orders.{IsFileOrdered, IsNoFile, IsObeyed, IsReadied}
use Rattle.ufs_at_primary.specs.Room.{AreTidied, AreTidiedFiles, IsTidied}
use Rattle.ufs_at_primary.specs.Stock.{AreHere, StockState}
use Rattle.ufs_at_primary.specs.Served.{All, ByNames, IsAnsweredHere, IsServed, Lacked, OnFile, OnNone, back_in, emptied, lent_with, made_in, places_then}
use Rattle.ufs_at_primary.specs.declared.ordered.Ordered.{Ordered}
use Rattle.ufs_at_primary.specs.declared.ordered.Ordered.TheVariants as ordered

-- ---- owners

-- where one file gets another owner, a file at the primary was there, or is that
moved_before : (owners : Files) (g f : ℕ) (o : Owner) (note : ℕ) → (o ≡ Primary → ⊥) → owner_at (with_owner owners g o note) f ≡ Primary → (f ≢ g) × (owner_at owners f ≡ Primary)
moved_before owners g f o note away is = by (one_or_other g f)
  where
    by : (f ≡ g) ⊎ (f ≢ g) → (f ≢ g) × (owner_at owners f ≡ Primary)
    by (inl e) = absurd (away (sym (has_owner owners g o note) ∙ ap (owner_at (with_owner owners g o note)) (sym e) ∙ is))
    by (inr other) = (other, sym (ap (λ (s : Standing). s.owner) (other_stays owners g f (record (standing_at owners g) { owner = o; note = note }) other)) ∙ is)

not_arrived : (o : Owner) → is_going o ≡ true → arrived o ≡ Primary → ⊥
not_arrived Primary going is = cc
not_arrived (Worker w) going is = cc
not_arrived (Coming w) going is = cc
not_arrived (Going w) going is = cc

gone_before : (owners : Files) (g f : ℕ) → owner_at (gone_from owners g) f ≡ Primary → owner_at owners f ≡ Primary
gone_before owners g f is = by (is_going (owner_at owners g)) refl
  where
    by : (b : Bool) → is_going (owner_at owners g) ≡ b → owner_at owners f ≡ Primary
    by true e = (moved_before owners g f (arrived (owner_at owners g)) 0 (not_arrived (owner_at owners g) e) (sym (ap (λ (b : Bool). owner_at (cond b (with_owner owners g (arrived (owner_at owners g)) 0) owners) f) e) ∙ is)).1
    by false e = sym (ap (λ (b : Bool). owner_at (cond b (with_owner owners g (arrived (owner_at owners g)) 0) owners) f) e) ∙ is

left_before : (owners : Files) (m : Mailed) (f : ℕ) → owner_at (left_by owners m) f ≡ Primary → owner_at owners f ≡ Primary
left_before owners (inl c) f is = gone_before owners c.value.file.file f is
left_before owners (inr g) f is = is

all_before : (owners : Files) (ms : List Mailed) (f : ℕ) → owner_at (left_by_all owners ms) f ≡ Primary → owner_at owners f ≡ Primary
all_before owners [] f is = is
all_before owners (m ∷ ms) f is = left_before owners m f (all_before (left_by owners m) ms f is)

rings_before : {Q : Type 0} (sends : ℕ → Q → Mailed → Q → Type 0) (same : Q → Q → Type 0) (full : Q → ℕ → Type 0) (n : ℕ) (old new : Boxes) (owners then : Files) (p q : Q) → RingsGo sends same full n old new owners then p q
    → (f : ℕ) → owner_at then f ≡ Primary → owner_at owners f ≡ Primary
rings_before sends same full zero old new owners then p q go f is = sym (ap (λ (o : Files). owner_at o f) go.1) ∙ is
rings_before sends same full (suc n) old new owners then p q go f is =
    rings_before sends same full n old go.0 owners go.1 p go.2 go.3 f
    (all_before go.1 go.4.go.go.gone f (sym (ap (λ (o : Files). owner_at o f) go.4.go.owned) ∙ is))

-- ---- as owners go on

here_owners : (names : NamesCell) (h g : HomeState) → g.places ≡ h.places → ((f : ℕ) → owner_at g.owners f ≡ Primary → owner_at h.owners f ≡ Primary) → AreHere names h → AreHere names g
here_owners names h g places before here f live at = subst (λ (p : Places). IsSome (file_here p f)) (sym places) (here f live (before f at))

here_back : (names : NamesCell) (h : HomeState) (file : ℕ) → (recalled (owner_at h.owners file) ≡ Primary → ⊥) → AreHere names h → AreHere names (called_back h file 0)
here_back names h file away here = here_owners names h (called_back h file 0) refl (λ f at. (moved_before h.owners file f (recalled (owner_at h.owners file)) 0 away at).1) here

here_called : (names : NamesCell) (h : HomeState) (file : ℕ) → AreHere names h → AreHere names (called_for h file)
here_called names h file here = by (owner_at h.owners file) refl
  where
    by : (o : Owner) → owner_at h.owners file ≡ o → AreHere names (called_by o h file)
    by Primary e = here
    by (Coming w) e = here
    by (Worker w) e = here_back names h file (λ is. let r = ap recalled e in let both = sym r ∙ is in cc) here
    by (Going w) e = here_back names h file (λ is. let r = ap recalled e in let both = sym r ∙ is in cc) here

waiting_before : (owners : Files) (file : ℕ) (xs : List ℕ) (f : ℕ) → owner_at (with_waiting owners file xs) f ≡ Primary → owner_at owners f ≡ Primary
waiting_before owners file xs f is = by (one_or_other file f)
  where
    by : (f ≡ file) ⊎ (f ≢ file) → owner_at owners f ≡ Primary
    by (inl e) = ap (owner_at owners) e ∙ sym (waiting_keeps_owner owners file xs) ∙ ap (owner_at (with_waiting owners file xs)) (sym e) ∙ is
    by (inr other) = sym (ap (λ (s : Standing). s.owner) (other_stays owners file f (record (standing_at owners file) { waiting = xs }) other)) ∙ is

here_waiting : (names : NamesCell) (h : HomeState) (file : ℕ) (xs : List ℕ) → AreHere names h → AreHere names (record h { owners = with_waiting h.owners file xs })
here_waiting names h file xs here = here_owners names h (record h { owners = with_waiting h.owners file xs }) refl (waiting_before h.owners file xs) here

pub here_unwaited : (names : NamesCell) (h : HomeState) (file client : ℕ) → AreHere names h → AreHere names (unwaited h file client)
here_unwaited names h file client here = here_waiting names h file _ here

pub here_awaited : {A E : Type 0} (names : NamesCell) (h m g : HomeState) (file client : ℕ) (x : Result A E) → m ≡ called_for h file → OnOk x (g ≡ waited_for m file client) → OnErr x (g ≡ m) → AreHere names h → AreHere names g
here_awaited names h m g file client (Ok x) asked noted same here = subst (AreHere names) (sym noted) (here_waiting names m file _ (subst (AreHere names) (sym asked) (here_called names h file here)))
here_awaited names h m g file client (Err e) asked noted same here = subst (AreHere names) (sym (same ∙ asked)) (here_called names h file here)

pub here_gone : {Q : Type 0} (sends : ℕ → Q → Mailed → Q → Type 0) (same : Q → Q → Type 0) (full : Q → ℕ → Type 0) (n : ℕ) (names : NamesCell) (h g : HomeState) (p q : Q) → RingsGo sends same full n h.letters g.letters h.owners g.owners p q
    → g.places ≡ h.places → AreHere names h → AreHere names g
here_gone sends same full n names h g p q go places here = here_owners names h g places (rings_before sends same full n h.letters g.letters h.owners g.owners p q go) here

-- ---- as files come

is_here : (p : Places) (n : ℕ) (c : FileCell) → IsSome (file_here (fin.insert p n (Some c)) n)
is_here p n c = ap (λ (o : Option (Option FileCell)). is_some (in_place o)) (put_here p n (Some c))

else_here : (p : Places) (n : ℕ) (o : Option FileCell) (f : ℕ) → f ≢ n → IsSome (file_here p f) → IsSome (file_here (fin.insert p n o) f)
else_here p n o f other here = ap (λ (x : Option (Option FileCell)). is_some (in_place x)) (put_else p n o f other) ∙ here

-- a file in its place is here
fill_here : (p : Places) (n : ℕ) (c : FileCell) (f : ℕ) → (f ≢ n → IsSome (file_here p f)) → IsSome (file_here (fin.insert p n (Some c)) f)
fill_here p n c f else' = by (one_or_other n f)
  where
    by : (f ≡ n) ⊎ (f ≢ n) → IsSome (file_here (fin.insert p n (Some c)) f)
    by (inl e) = ap (λ (x : ℕ). is_some (file_here (fin.insert p n (Some c)) x)) e ∙ is_here p n c
    by (inr other) = else_here p n (Some c) f other (else' other)

here_home : (names : NamesCell) (h : HomeState) (c : FileCell) → AreHere names h → AreHere names (come_home h c)
here_home names h c here f live at = fill_here h.places c.value.file.file c f (λ other. here f live (before other))
  where
    before : f ≢ c.value.file.file → owner_at h.owners f ≡ Primary
    before other = sym (ap (λ (s : Standing). s.owner) (other_stays h.owners c.value.file.file f (record (standing_at h.owners c.value.file.file) { owner = Primary; note = 0 }) other)) ∙ at

here_sent : (names : NamesCell) (h : HomeState) (file : ℕ) (c : FileCell) (to : ℕ) → AreHere names h → AreHere names (sent h file c to)
here_sent names h file c to here f live at =
    let was = moved_before h.owners file f (Going to) 0 (λ e. cc) at in
    else_here h.places file None f was.0 (here f live was.1)

here_come : (names : NamesCell) (h : HomeState) (c : FileCell) (to : ℕ) → AreHere names h → AreHere names (come_on h c to)
here_come names h c zero here = here_home names h c here
here_come names h c (suc n) here = here_sent names (come_home h c) c.value.file.file c (suc n) (here_home names h c here)

pub here_came : {E : Type 0} (names : NamesCell) (h g : HomeState) (c : FileCell) (x : Result ℕ E) → IfOk x (λ to. g ≡ come_on h c to) → OnErr x (g ≡ h) → AreHere names h → AreHere names g
here_came names h g c (Ok to) came same here = subst (AreHere names) (sym came) (here_come names h c to here)
here_came names h g c (Err e) came same here = subst (AreHere names) (sym same) here

-- ---- as requests are served

abbrev pub AreSameLive : NamesCell → NamesCell → Type 0
AreSameLive old new = new.value.held ≡ old.value.held

pub here_names : (h : HomeState) (old new : NamesCell) → AreSameLive old new → AreHere old h → AreHere new h
here_names h old new same here f live at = here f (subst (λ (m : Holdings). IsSome (fin.get m f)) same live) at

pub same_names : (old new : NamesCell) → new ≡ old → AreSameLive old new
same_names old new is = ap (λ (c : NamesCell). c.value.held) is

pub committed_live : (visible : Bool) (old new : NamesCell) → AreCommitted visible old new → AreSameLive old new
committed_live visible old new k = ap (λ (c : NamesCell). c.value.held) k.is

-- what is so of a `sync` that is done, and of one that is excused
by_reply : (r : Reply) (A : Type 0) → IsSyncReply r → (r ≡ reply.Done → A) → (is_excused r ≡ true → A) → A
by_reply reply.Done A is done excused = done refl
by_reply (reply.Excused x) A is done excused = excused refl
by_reply (reply.Fd n) A is done excused = absurd is
by_reply (reply.Count n) A is done excused = absurd is
by_reply (reply.At n) A is done excused = absurd is
by_reply (reply.Got b) A is done excused = absurd is
by_reply (reply.IsFile n) A is done excused = absurd is
by_reply (reply.IsDir n) A is done excused = absurd is
by_reply (reply.Names n) A is done excused = absurd is
by_reply (reply.Refused e) A is done excused = absurd is

here_live : (visible : Bool) (before after : Option View) (old new : NamesCell) (c d : FileCell) (pool behind : BlockSet) (ask : Ask) (entry : Entry) (desc : Option Desc) (b : Bool) → IsDoneHere visible before after old new c d pool behind ask entry desc b → AreSameLive old new
here_live visible before after old new c d pool behind ask entry desc true s = by_reply entry.reply (AreSameLive old new) s.replied (λ done. committed_live visible old new (s.names done)) (λ excused. short (s.short excused))
  where
    short : ((new ≡ old) × (d ≡ c)) ⊎ (AreCommitted visible old new × (d ≡ record c { born = true })) → AreSameLive old new
    short (inl x) = same_names old new x.0
    short (inr x) = committed_live visible old new x.0
here_live visible before after old new c d pool behind ask entry desc false s = same_names old new s.names

dir_live : (visible : Bool) (before after : Option View) (old new : NamesCell) (r : Reply) (desc : Option Desc) → IsDirDone visible before after old new r desc → AreSameLive old new
dir_live visible before after old new r None s = same_names old new s.names
dir_live visible before after old new r (Some d) s = by_reply r (AreSameLive old new) s.replied (λ done. committed_live visible old new (s.names done)) (λ excused. same_names old new (s.kept excused))

all_live : (visible : Bool) (before after : Option View) (old new : NamesCell) (olds nows : List FileCell) (ask : Ask) (told : Told) → IsAllSynced visible before after old new olds nows ask told → AreSameLive old new
all_live visible before after old new olds nows ask told s = by_reply told.entry.reply (AreSameLive old new) s.replied (λ done. committed_live visible old new (s.names done)) (λ excused. short (s.short excused))
  where
    short : StopsShort visible old new olds nows before after → AreSameLive old new
    short (AtNames names files free) = same_names old new names
    short (AtFile names k few synced freed) = committed_live visible old new names

-- where files are put back, by their numbers
abbrev AreAlikeAt : Places → Places → ℕ → Type 0
AreAlikeAt p q f = IsSome (file_here p f) → IsSome (file_here q f)

abbrev head_of : List ℕ → ℕ
head_of [] = 0
head_of (n ∷ ns) = n

abbrev tail_of : List ℕ → List ℕ
tail_of [] = []
tail_of (n ∷ ns) = ns

head_same : (x y : FileCell) (xs ys : List FileCell) → numbers_in (x ∷ xs) ≡ numbers_in (y ∷ ys) → (x.value.file.file ≡ y.value.file.file) × (numbers_in xs ≡ numbers_in ys)
head_same x y xs ys is = (ap head_of is, ap tail_of is)

alike_put : (f : ℕ) (xs ys : List FileCell) (p q : Places) → numbers_in ys ≡ numbers_in xs → AreAlikeAt p q f → AreAlikeAt (put_all p xs) (put_all q ys) f
alike_put f [] [] p q is alike = alike
alike_put f [] (y ∷ ys) p q is alike = absurd cc
alike_put f (x ∷ xs) [] p q is alike = absurd cc
alike_put f (x ∷ xs) (y ∷ ys) p q is alike =
    let same = head_same y x ys xs is in
    alike_put f xs ys (fin.insert p x.value.file.file (Some x)) (fin.insert q y.value.file.file (Some y)) same.1 (λ here. fill_here q y.value.file.file y f (λ other. alike (was here (λ e. other (e ∙ sym same.0)))))
  where
    was : IsSome (file_here (fin.insert p x.value.file.file (Some x)) f) → f ≢ x.value.file.file → IsSome (file_here p f)
    was here other = sym (ap (λ (o : Option (Option FileCell)). is_some (in_place o)) (put_else p x.value.file.file (Some x) f other)) ∙ here

-- ---- a request of the names

module _ (before after : Option View) (old new : NamesCell) (touched still young : Option FileCell) (pool behind : BlockSet) (ask : Ask) (entry : Entry) (desc : Option Desc) (s : IsDoneByNames before after old new touched still young pool behind ask entry desc) (h : HomeState) (here : AreHere old h)
    (f : ℕ) (live : IsSome (fin.get new.value.held f)) (at : owner_at h.owners f ≡ Primary) where
  abbrev next : ℕ
  next = old.value.next

  -- there is a place for the new file, and the touched one is away: other files are here
  else_lent : (t : Option FileCell) → (number_of t ≡ Some f → ⊥) → IsSome (file_here h.places f) → IsSome (file_here (lent_with h.places t next) f)
  else_lent t other is = placed (fin.get (emptied h.places t) next) (emptied_else t other)
    where
      emptied_else : (t : Option FileCell) → (number_of t ≡ Some f → ⊥) → IsSome (file_here (emptied h.places t) f)
      emptied_else None other = is
      emptied_else (Some c) other = else_here h.places c.value.file.file None f (λ e. other (ap Some (sym e))) is

      placed : Option (Option FileCell) → IsSome (file_here (emptied h.places t) f) → IsSome (file_here (lent_with h.places t next) f)
      placed o is = by (is_some (fin.get (emptied h.places t) next)) refl
        where
          by : (b : Bool) → is_some (fin.get (emptied h.places t) next) ≡ b → IsSome (file_here (cond b (emptied h.places t) (fin.insert (emptied h.places t) next None)) f)
          by true e = is
          by false e = by' (one_or_other next f)
            where
              by' : (f ≡ next) ⊎ (f ≢ next) → IsSome (file_here (fin.insert (emptied h.places t) next None) f)
              by' (inl same) =
                  let none : is_some (fin.get (emptied h.places t) f) ≡ false = ap (λ (n : ℕ). is_some (fin.get (emptied h.places t) n)) same ∙ e in
                  absurd (no_place (fin.get (emptied h.places t) f) none is)
                where
                  no_place : (o : Option (Option FileCell)) → is_some o ≡ false → IsSome (in_place o) → ⊥
                  no_place None e some = cc
                  no_place (Some o) e some = cc
              by' (inr other) = else_here (emptied h.places t) next None f other is

  -- the new one is in its place
  made_else : (y : Option FileCell) → IsSome (file_here (lent_with h.places touched next) f) → IsSome (file_here (made_in y next (lent_with h.places touched next)) f)
  made_else None is = is
  made_else (Some c) is = fill_here (lent_with h.places touched next) next c f (λ other. is)

  made_here : (y : Option FileCell) → IfSome y (IsNewborn next entry.ticket) → number_of y ≡ Some f → IsSome (file_here (made_in y next (lent_with h.places touched next)) f)
  made_here None new is = absurd cc
  made_here (Some c) new is =
      let own : c.value.file.file ≡ next = ap (λ (x : FileCell). x.value.file.file) new in
      fill_here (lent_with h.places touched next) next c f (λ other. absurd (other (sym (same_some c.value.file.file f is) ∙ own)))

  -- where it isn't the touched one
  in_lent : (number_of touched ≡ Some f → ⊥) → IsSome (file_here (made_in young next (lent_with h.places touched next)) f)
  in_lent other = by (s.lives f live)
    where
      by : IsSome (fin.get old.value.held f) ⊎ (number_of young ≡ Some f) → IsSome (file_here (made_in young next (lent_with h.places touched next)) f)
      by (inl was) = made_else young (else_lent touched other (here f was at))
      by (inr is) = made_here young s.made is

  -- the touched one is live where it is still there
  not_gone : (t : Option FileCell) → t ≡ touched → still ≡ None → number_of t ≡ Some f → ⊥
  not_gone None e none is = cc
  not_gone (Some c) e none is = by (is_excused entry.reply) refl
    where
      by : (b : Bool) → is_excused entry.reply ≡ b → ⊥
      by true x = let both = sym none ∙ s.kept_file x ∙ sym e in cc
      by false x =
          let gone = subst (λ (o : Option FileCell). IfSome o (λ k. fin.get new.value.held k.value.file.file ≡ None)) (sym e) (s.gone x none) in
          let here' : fin.get new.value.held f ≡ None = ap (fin.get new.value.held) (sym (same_some c.value.file.file f is)) ∙ gone in
          let both : false ≡ true = sym (ap is_some here') ∙ live in
          cc

  -- the file that is still there is the touched one
  same_number : (d : FileCell) → still ≡ Some d → number_of touched ≡ Some d.value.file.file
  same_number d e = by (is_excused entry.reply) refl
    where
      there : (t : Option FileCell) → IsStillThere entry.ticket t d → number_of t ≡ Some d.value.file.file
      there None is = absurd is
      there (Some c) is = ap Some (sym is.1)

      by : (b : Bool) → is_excused entry.reply ≡ b → number_of touched ≡ Some d.value.file.file
      by true x = ap number_of (sym (s.kept_file x) ∙ e)
      by false x = there touched (subst (λ (o : Option FileCell). IfSome o (IsStillThere entry.ticket touched)) e (s.file x))

  abbrev q : Places
  q = made_in young next (lent_with h.places touched next)

  pub named_here : IsSome (file_here (places_then h.places next touched still young) f)
  named_here = by still refl
    where
      back : (t : Option FileCell) → t ≡ touched → still ≡ None → IsSome (file_here (back_in None (number_of t) q) f)
      back None e none = in_lent (λ is. let no = ap number_of e in let both = no ∙ is in cc)
      back (Some c) e none =
          ap (λ (o : Option (Option FileCell)). is_some (in_place o)) (lookups.removed_else nat_cmp_total nat_cmp-IsAntisymmetric q c.value.file.file f (λ is. not_gone (Some c) e none (ap Some (sym is))))
          ∙ in_lent (λ is. not_gone (Some c) e none (ap number_of e ∙ is))

      by : (o : Option FileCell) → still ≡ o → IsSome (file_here (back_in o (number_of touched) q) f)
      by None e = back touched refl e
      by (Some d) e = fill_here q d.value.file.file d f (λ other. in_lent (λ is. other (sym (same_some d.value.file.file f (sym (same_number d e) ∙ is)))))

-- ---- all together

here_of : (s t : StockState) → t ≡ s → AreHere s.names s.home → AreHere t.names t.home
here_of s t is here = subst (λ (x : StockState). AreHere x.names x.home) (sym is) here

module _ (visible : Bool) (before after : Option View) (s t : StockState) (here : AreHere s.names s.home) where
  here_served : (ask : Ask) (told : Told) → IsServed visible before after s t ask told → AreHere t.names t.home
  here_served ask told (OnFile x) =
      subst (AreHere t.names) (sym x.home) (λ f live at. fill_here s.home.places x.file x.is f (λ other. here_names s.home s.names t.names
      (here_live visible before after s.names t.names x.was x.is s.pool t.pool ask told.entry told.desc (asks_commit ask.op) x.served.done) here f live at))
  here_served ask told (ByNames x) =
      subst (AreHere t.names) (sym x.home) (λ f live at. named_here before after s.names t.names x.touched x.still x.young s.pool t.pool ask told.entry told.desc x.served.done s.home here f live at)
  here_served ask told (OnNone x) =
      let same = dir_live visible before after s.names t.names told.entry.reply ask.desc x.served.done in
      let home : t.home ≡ s.home = ap (λ (y : StockState). y.home) x.rest in
      subst (AreHere t.names) (sym home) (here_names s.home s.names t.names same here)
  here_served ask told (All x) =
      let same = all_live visible before after s.names t.names x.olds x.nows ask told x.served in
      let home : t.home ≡ record s.home { places = put_all x.lent x.nows } = ap (λ (y : StockState). y.home) x.rest in
      subst (AreHere t.names) (sym home) (λ f live at. alike_put f x.olds x.nows x.lent x.lent x.served.numbers (λ is. is)
      (subst (λ (p : Places). IsSome (file_here p f)) (sym x.here.back) (here_names s.home s.names t.names same here f live at)))
  here_served ask told (Lacked x) = here_of s t x.rest here

  pub here_answered : {N : Type 0} (r : Asked) (a : Answer N) → IsAnsweredHere visible before after s t r a → AreHere t.names t.home
  here_answered r a is = here_served r.ask is.0 is.2

-- ---- as room is made

pub tidied_live : (visible : Bool) (old new : NamesCell) → AreTidied visible old new → AreSameLive old new
tidied_live visible old new t = back t.back ∙ committed t.committed
  where
    back : (new ≡ t.between) ⊎ IsReclaimed t.between new → new.value.held ≡ t.between.value.held
    back (inl e) = ap (λ (c : NamesCell). c.value.held) e
    back (inr e) = ap (λ (c : NamesCell). c.value.held) e

    committed : (t.between ≡ old) ⊎ AreCommitted visible old t.between → t.between.value.held ≡ old.value.held
    committed (inl e) = ap (λ (c : NamesCell). c.value.held) e
    committed (inr e) = committed_live visible old t.between e

module _ (base : ℕ) (visible : Bool) (before after : Option View) (s t : StockState) (is : IsTidied base visible before after s t) where
  -- a file that was here is here
  pub still_tidied : (f : ℕ) → IsSome (file_here s.home.places f) → IsSome (file_here t.home.places f)
  still_tidied f here = by is.files
    where
      by : ((t.home ≡ s.home) × (is.most ≤ base)) ⊎ ((a : AreTidiedFiles visible s t) × (is.most ≤ base + 2 + length a.olds)) → IsSome (file_here t.home.places f)
      by (inl x) = subst (λ (h : HomeState). IsSome (file_here h.places f)) (sym x.0) here
      by (inr x) =
          let a = x.0 in
          subst (λ (h : HomeState). IsSome (file_here h.places f)) (sym a.home) (alike_put f a.olds a.nows a.lent a.lent a.numbers (λ at. at) (subst (λ (p : Places). IsSome (file_here p f)) (sym a.here.back) here))

  pub owners_tidied : t.home.owners ≡ s.home.owners
  owners_tidied = by is.files
    where
      by : ((t.home ≡ s.home) × (is.most ≤ base)) ⊎ ((a : AreTidiedFiles visible s t) × (is.most ≤ base + 2 + length a.olds)) → t.home.owners ≡ s.home.owners
      by (inl x) = ap (λ (h : HomeState). h.owners) x.0
      by (inr x) = (let a = x.0 in ap (λ (h : HomeState). h.owners) a.home)

  pub here_tidied : AreHere s.names s.home → AreHere t.names t.home
  here_tidied here f live at = still_tidied f (here_names s.home s.names t.names (tidied_live visible s.names t.names is.names) here f live (sym (ap (λ (o : Files). owner_at o f) owners_tidied) ∙ at))

-- ---- an order

from_primary : (o : Owner) → recalled o ≡ Primary → o ≡ Primary
from_primary Primary is = refl
from_primary (Worker w) is = absurd cc
from_primary (Coming w) is = absurd cc
from_primary (Going w) is = absurd cc

here_recalled : (names : NamesCell) (h : HomeState) (file to : ℕ) → AreHere names h → AreHere names (called_back h file to)
here_recalled names h file to here = here_owners names h (called_back h file to) refl before here
  where
    before : (f : ℕ) → owner_at (with_owner h.owners file (recalled (owner_at h.owners file)) to) f ≡ Primary → owner_at h.owners f ≡ Primary
    before f is = by (one_or_other file f)
      where
        by : (f ≡ file) ⊎ (f ≢ file) → owner_at h.owners f ≡ Primary
        by (inl e) = ap (owner_at h.owners) e ∙ from_primary (owner_at h.owners file) (sym (has_owner h.owners file (recalled (owner_at h.owners file)) to) ∙ ap (owner_at (with_owner h.owners file (recalled (owner_at h.owners file)) to)) (sym e) ∙ is)
        by (inr other) = sym (ap (λ (s : Standing). s.owner) (other_stays h.owners file f (record (standing_at h.owners file) { owner = recalled (owner_at h.owners file); note = to }) other)) ∙ is

here_renoted : (names : NamesCell) (h : HomeState) (file to : ℕ) → AreHere names h → AreHere names (record h { owners = with_owner h.owners file (owner_at h.owners file) to })
here_renoted names h file to here = here_owners names h (record h { owners = with_owner h.owners file (owner_at h.owners file) to }) refl before here
  where
    before : (f : ℕ) → owner_at (with_owner h.owners file (owner_at h.owners file) to) f ≡ Primary → owner_at h.owners f ≡ Primary
    before f is = by (one_or_other file f)
      where
        by : (f ≡ file) ⊎ (f ≢ file) → owner_at h.owners f ≡ Primary
        by (inl e) = ap (owner_at h.owners) e ∙ sym (has_owner h.owners file (owner_at h.owners file) to) ∙ ap (owner_at (with_owner h.owners file (owner_at h.owners file) to)) (sym e) ∙ is
        by (inr other) = sym (ap (λ (s : Standing). s.owner) (other_stays h.owners file f (record (standing_at h.owners file) { owner = owner_at h.owners file; note = to }) other)) ∙ is

here_moved : (names : NamesCell) (h g : HomeState) (file to : ℕ) (m : Moved) → IsMoved h g file to m → AreHere names h → AreHere names g
here_moved names h g file to moved.Sent is here = subst (AreHere names) (sym is.2) (here_sent names h file is.0 to here)
here_moved names h g file to moved.Recalled is here = subst (AreHere names) (sym is) (here_recalled names h file to here)
here_moved names h g file to moved.Renoted is here = subst (AreHere names) (sym is) (here_renoted names h file to here)
here_moved names h g file to moved.Nothing is here = subst (AreHere names) (sym is) here
here_moved names h g file to (moved.Lack l) is here = subst (AreHere names) (sym is) here

here_readied : (visible : Bool) (s t : StockState) (file : ℕ) → IsReadied visible s t file → AreHere s.names s.home → AreHere t.names t.home
here_readied visible s t file x here =
    subst (AreHere t.names) (sym (ap (λ (y : StockState). y.home) x.rest)) (λ f live at. fill_here s.home.places file (record (x.was) { born = true }) f (λ other. here_names s.home s.names t.names same here f live at))
  where
    by : (t.names ≡ s.names) ⊎ AreCommitted visible s.names t.names → AreSameLive s.names t.names
    by (inl e) = same_names s.names t.names e
    by (inr e) = committed_live visible s.names t.names e

    same : AreSameLive s.names t.names
    same = by x.names

pub here_ordered : (visible : Bool) (s t : StockState) (file to : ℕ) (o : Ordered) → IsFileOrdered visible s t file to o → AreHere s.names s.home → AreHere t.names t.home
here_ordered visible s t file to (ordered.Dropped fault) is here = here_of s t is.1 here
here_ordered visible s t file to (ordered.Moved m) is here = by is
  where
    readied : (r : StockState) → (r ≡ s) ⊎ IsReadied visible s r file → AreHere r.names r.home
    readied r (inl same) = here_of s r same here
    readied r (inr x) = here_readied visible s r file x here

    by : IsObeyed visible s t file to m ⊎ IsNoFile s t file m → AreHere t.names t.home
    by (inl x) =
        let names : t.names ≡ x.ready.names = ap (λ (y : StockState). y.names) x.rest in
        subst (λ (n : NamesCell). AreHere n t.home) (sym names) (here_moved x.ready.names x.ready.home t.home file to m x.moved (readied x.ready x.readied))
    by (inr x) = here_of s t x.rest here
