-- An answer on its way: the entry, or where the request is to go.
use Rattle.std.specs.Prelude.{ℕ, ◌≡◌, ◌<◌, IsSome, List, [], ◌∷◌, ◌++◌, length, Option, Some, None, refl}
use Rattle.std.specs.Coded.{Coded, code_by, coded×, coded_option}
use Rattle.ufs_joint.specs.Cells.{Start, View}
use Rattle.ufs_joint.specs.Codes.{view_code}
use Rattle.ufs_joint.specs.FileHands.{own_desc}
use Rattle.ufs_model.specs.Asks.{fd_told}
use Rattle.ufs_model.specs.contracts.data.Actor as actor'
use Rattle.ufs_model.specs.contracts.data.Desc as desc'
use Rattle.ufs_model.specs.contracts.data.Entry as entry'
use Rattle.ufs_model.specs.contracts.data.Lease as lease'
use Rattle.ufs_model.specs.declared.data.Actor.{Actor}
use Rattle.ufs_model.specs.declared.data.Desc.{Desc}
use Rattle.ufs_model.specs.declared.data.Entry.{Entry}
use Rattle.ufs_model.specs.declared.data.Lease.{Lease}
use Rattle.ufs_hand_laws.specs.Owned.{Has}
use Rattle.ufs_hand_laws.specs.Parts.{ClientPart}
use Rattle.ufs_msg.specs.Requests.{Asked, HasClientAlone, asked_code}
use Rattle.ufs_msg.specs.There.{IsClientThere, IsServerThere, MayServe}

-- what a client sees of a request that was served
pub record Told : Type 0 where
  pub hand : View
  pub entry : Entry
  pub desc : Option Desc
  pub owner : Option Actor
  pub lease : Option Lease

abbrev pub told_code : Coded Told
told_code = code_by (View × (Entry × (Option Desc × (Option Actor × Option Lease))))
    (coded× view_code (coded× entry'.the_row.coded (coded× (coded_option desc'.the_row.coded) (coded× (coded_option actor'.the_row.coded) (coded_option lease'.the_row.coded)))))
    (λ a. (a.hand, (a.entry, (a.desc, (a.owner, a.lease))))) (λ p. record { hand = p.0; entry = p.1.0; desc = p.1.1.0; owner = p.1.1.1.0; lease = p.1.1.1.1 }) (λ _. refl)

-- and of one that is to go elsewhere
pub record Sent : Type 0 where
  pub request : Asked
  pub to : Actor

abbrev pub sent_code : Coded Sent
sent_code = code_by (Asked × Actor) (coded× asked_code actor'.the_row.coded) (λ s. (s.request, s.to)) (λ p. record { request = p.0; to = p.1 }) (λ _. refl)

-- The entry is the last of the hand's client, which has no request left that it asked; a server that is there served it.
pub record IsTold (k : Start) (entry : Entry) (desc : Option Desc) (owner : Option Actor) (lease : Option Lease) (v : View) : Type 0 where
  pub mine : IsClientThere k entry.client
  pub self : ClientPart
  pub alone : HasClientAlone entry.client self v
  pub low : entry.client < 16
  pub before : List Entry
  pub last : self.entries ≡ before ++ entry ∷ []
  pub seq : entry.seq ≡ length before
  pub few : entry.seq < 65536
  pub idle : self.asked ≡ None
  pub by : IsServerThere k entry.by
  pub desc_is : desc ≡ own_desc self.fds (fd_told entry.op entry.reply)
  -- it is told who has the file that a descriptor stands for, and no owner but of a request on a descriptor
  pub owned : (d : Desc) (file : ℕ) → desc ≡ Some d → d.file ≡ Some file → IsSome owner
  pub unowned : fd_told entry.op entry.reply ≡ None → owner ≡ None
  pub there : (a : Actor) → owner ≡ Some a → IsServerThere k a
  pub granted : (l : Lease) → lease ≡ Some l → Has l self.copies
  -- none is granted yet: so there is no copy of any
  pub unleased : self.copies ≡ []

-- The request may go there.
pub record IsSent (k : Start) (request : Asked) (to : Actor) : Type 0 where
  pub there : IsServerThere k to
  pub may : MayServe to request.ask
