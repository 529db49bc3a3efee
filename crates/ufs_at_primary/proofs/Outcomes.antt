-- What comes of a request, by what was done.
use Rattle.std.proofs.Common.{◌≡◌, ℕ, Bool, true, List, Option, Some, None, refl, ap, sym, ◌∙◌, subst}
use Rattle.std.specs.Prelude.{IfSome}
use Rattle.std.specs.FinMap as fin
use Rattle.ufs_bitmap.specs.Blocks.{BlockSet}
use Rattle.ufs_crash_laws.specs.Changes.{asks_commit}
use Rattle.ufs_held_names.specs.Asked.{IsNeeded, number_of}
use Rattle.ufs_held_names.specs.SyncAll.{AreAllLive}
use Rattle.ufs_home.specs.Home.{HomeState}
use Rattle.ufs_home.specs.Lending.{AreLent, put_all}
use Rattle.ufs_home.specs.Places.{file_here}
use Rattle.ufs_joint.specs.Cells.{FileCell, NamesCell, View}
use Rattle.ufs_model.specs.declared.data.Ask.{Ask}
use Rattle.ufs_model.specs.declared.data.Op.TheVariants as op
use Rattle.ufs_msg.specs.Answers.{Told}
use Rattle.ufs_msg.specs.Requests.{Asked}
use Rattle.ufs_msg.specs.declared.answer.Answer.{Answer}
use Rattle.ufs_msg.specs.declared.answer.Answer.TheVariants as says
use Rattle.ufs_owner.specs.Owners.{Files}
use Rattle.ufs_at_primary.specs.All.{IsAllSynced}
use Rattle.ufs_at_primary.specs.Here.{IsServedHere}
use Rattle.ufs_at_primary.specs.Kinds.{IsByNames, IsOnFile}
use Rattle.ufs_at_primary.specs.Named.{IsNamesServed}
use Rattle.ufs_at_primary.specs.Served.{All, ByNames, IsAnsweredHere, IsServed, IsStill, IsTried, OnFile, back_in, lent_with, made_in}
use Rattle.ufs_at_primary.specs.Room.{IsRoomMade}
use Rattle.ufs_at_primary.specs.Stock.{StockState, stock_of}
use Rattle.ufs_at_primary.specs.declared.tried.Tried.TheVariants as tried
use Rattle.ufs_at_primary.proofs.Rooms.{tidied_still}
use Rattle.ufs_at_primary.proofs.Trials.{back_home}

module _ {N : Type 0} (visible : Bool) (before after : Option View) (old new : NamesCell) (pool left : BlockSet) (r : Asked) (a : Answer N) where
  -- one on a file, which was lent and is back
  pub on_file : (h g k : HomeState) (file : ℕ) (was is : FileCell) → IsOnFile r.ask file → file_here h.places file ≡ Some was → was.value.file.file ≡ file → g ≡ record h { places = fin.insert h.places file None } → k ≡ record g { places = fin.insert g.places is.value.file.file (Some is) }
      → (told : Told) × (a ≡ says.Served told) × IsServedHere visible before after old new was is pool left r.ask told → IsAnsweredHere visible before after (stock_of old h pool) (stock_of new k left) r a
  on_file h g k file was is kind here number lent back s =
      let done = s.2 in
      (s.0, s.1, OnFile (record { file = file; kind = kind; was = was; is = is; here = here; served = done; home = back_home h g k file is.value.file.file is lent (done.number ∙ number) back }))

  -- a `sync`, for which all files were lent
  pub on_all : (h g k : HomeState) (olds nows : List FileCell) → r.ask.op ≡ op.Sync → AreLent h.places g.places olds → AreAllLive old.value olds → g ≡ record h { places = g.places } → k ≡ record g { places = put_all g.places nows } → left ≡ pool
      → (told : Told) × (a ≡ says.Served told) × IsAllSynced visible before after old new olds nows r.ask told → IsAnsweredHere visible before after (stock_of old h pool) (stock_of new k left) r a
  on_all h g k olds nows kind lent all away back same s = (
    s.0,
    s.1,
    All (record {
      kind = kind;
      olds = olds;
      nows = nows;
      lent = g.places;
      here = lent;
      all = all;
      served = s.2;
      rest = (λ i. stock_of new ((back ∙ ap (λ (x : HomeState). record x { places = put_all g.places nows }) away) i) (same i));
    }),
  )

  -- one of the names, with the file that it touches
  pub by_names : (h g k : HomeState) (needed : Option ℕ) (touched still young : Option FileCell) (next : ℕ) → IsByNames r.ask → IsNeeded old.value r.ask needed → number_of touched ≡ needed → IfSome touched (λ c. file_here h.places c.value.file.file ≡ Some c)
      → next ≡ old.value.next → g ≡ record h { places = lent_with h.places touched next } → k ≡ record g { places = back_in still needed (made_in young next g.places) }
      → (told : Told) × (a ≡ says.Served told) × IsNamesServed before after g.owners old new touched still young pool left r.ask told → IsAnsweredHere visible before after (stock_of old h pool) (stock_of new k left) r a
  by_names h g k needed touched still young next kind its number here is lent back s = (
    s.0,
    s.1,
    ByNames (record {
      kind = kind;
      touched = touched;
      still = still;
      young = young;
      needed = subst (IsNeeded old.value r.ask) (sym number) its;
      here = here;
      served = subst (λ (f : Files). IsNamesServed before after f old new touched still young pool left r.ask s.0) (ap (λ (x : HomeState). x.owners) lent) s.2;
      home = back ∙ ap (λ (x : HomeState). record x { places = back_in still needed (made_in young next x.places) }) lent
          ∙ (λ i. record h { places = back_in still (sym number i) (made_in young (is i) (lent_with h.places touched (is i))) });
    }),
  )

-- The names, or the files, that the request found are the same as before.
pub answered_from : {N : Type 0} (visible : Bool) (before after : Option View) (s s' t : StockState) (r : Asked) (a : Answer N) → s ≡ s' → IsAnsweredHere visible before after s t r a → IsAnsweredHere visible before after s' t r a
answered_from visible before after s s' t r a same is = subst (λ (q : StockState). IsAnsweredHere visible before after q t r a) same is

-- So is the request.
pub answered_as : {N : Type 0} (visible : Bool) (before after : Option View) (s t : StockState) (r q : Asked) (a : Answer N) → IsStill r q → IsAnsweredHere visible before after s t q a → IsAnsweredHere visible before after s t r a
answered_as visible before after s t r q a still is = (is.0, is.1, subst (λ (k : Ask). IsServed visible before after s t k is.0) still.ask is.2)

-- Room was made for it before.
pub in_room : {N : Type 0} (visible : Bool) (before mid after : Option View) (s m t : StockState) (r : Asked) (a : Answer N) → IsRoomMade visible before mid s m → (asks_commit r.ask.op ≡ true → (m ≡ s) × (mid ≡ before)) → IsAnsweredHere visible mid after m t r a → IsTried visible before after s t r (tried.Answered a)
in_room visible before mid after s m t r a room spared is = (is.0, is.1, record { between = m; then = mid; room = room; spared = spared; served = is.2 })

-- It needs none.
pub as_found : {N : Type 0} (visible : Bool) (before after : Option View) (s t : StockState) (r : Asked) (a : Answer N) → IsAnsweredHere visible before after s t r a → IsTried visible before after s t r (tried.Answered a)
as_found visible before after s t r a is = in_room visible before before after s s t r a (tidied_still 1 visible before s) (λ commits. (refl, refl)) is
