-- The files' rights came to the hand of the pools.
use Rattle.std.proofs.Common.{◌≡◌, Bool, List, [], ◌++◌, ap, sym, refl, ◌∙◌, subst}
use Rattle.std.proofs.lemmas.List.{append-nil}
use Rattle.ufs_disk.specs.Moments.{Moments}
use Rattle.ufs_held.specs.Together.{HasThemToo, under_numbers}
use Rattle.ufs_held_names.specs.HeldNames.{HasNamesAlone}
use Rattle.ufs_joint.specs.Cells.{FileCell, NamesCell, Start, View, both_of}
use Rattle.ufs_model.specs.declared.data.Entry.{Entry}
use Rattle.ufs_store.specs.State.{StoreState}
use Rattle.ufs_turns.specs.HeldStore.{IsHeldStore, IsStoreIn}
use Rattle.ufs_gathered.specs.Gathered.{AreHome, HasAllOf, HasFilesToo, HasPoolsAlone, with_all}
use Rattle.ufs_gathered.proofs.AllThere.{has_all, store_there}

pub files_too : (files : List FileCell) (v w : View) → HasPoolsAlone v → HasThemToo files v w → HasFilesToo files w
files_too files v w alone too = record {
  clients = too.clients ∙ alone.clients;
  files = too.files ∙ ap (λ ps. ps ++ under_numbers files) alone.files;
  names = too.names ∙ alone.names;
  store = too.store ∙ alone.store;
}

module _ (names : NamesCell) (right : View) (named : HasNamesAlone names right) (k : Start) (origin : Moments) (visible keeps : Bool) (own : View) (s : StoreState) (home : IsHeldStore k origin visible keeps own s)
    (files : List FileCell) (rest : View) (rested : HasFilesToo files rest) (clients : List View) (lists : List (List Entry)) (at_home : AreHome lists clients) where
  -- the two hands apart
  abbrev both : View
  both = both_of right own

  abbrev them : View
  them = record both { files = both.files ++ under_numbers files }

  abbrev pools : View
  pools = record rest { files = [] }

  has_them : HasThemToo files both them
  has_them = record { clients = refl; asked = refl; files = refl; pools = refl; names = refl; store = refl; faults = refl; stop = λ fault told. told }

  pools_alone : HasPoolsAlone pools
  pools_alone = record { clients = rested.clients; files = refl; names = rested.names; store = rested.store }

  same : both_of them pools ≡ both_of both rest
  same = λ i. record (both_of both rest) { files = (append-nil (both.files ++ under_numbers files) ∙ ap (λ ps. both.files ++ ps) (sym rested.files)) i }

  pub has_all_too : HasAllOf names files rest clients (with_all (both_of both rest) clients)
  has_all_too =
      let h = has_all names right named k origin visible keeps own s home files them has_them pools pools_alone clients lists at_home in
      subst (λ (v : View). HasAllOf names files rest clients (with_all v clients)) same (record { clients_are = h.clients_are; files_are = h.files_are; pools_are = h.pools_are; names_are = h.names_are })

  pub store_there_too : IsStoreIn k origin visible keeps (with_all (both_of both rest) clients) s
  store_there_too =
      subst (λ (v : View). IsStoreIn k origin visible keeps (with_all v clients) s) same
      (store_there names right named k origin visible keeps own s home files them has_them pools pools_alone clients lists at_home)
