-- An `fsync` of a directory is answered by a guest that has the names meanwhile.
use Rattle.std.proofs.Common.{◌≡◌, ◌≤◌, ◌++◌, inl, inr, ℕ, Bool, true, cond, eqb, List, [], ◌∷◌, Option, Some, None, is_some, sym, refl, ap, ◌∙◌, subst}
use Rattle.std.specs.Prelude.{if◌then◌else◌, is_none, unwrap_or}
use Rattle.std.specs.FinMap as map
use Rattle.std.proofs.lemmas.List.{append-nil}
use Rattle.ufs_base.specs.Choices.{first_of, refused_if}
use Rattle.ufs_bitmap.specs.Blocks.{BlockSet}
use Rattle.ufs_model.specs.Asks.{IsAsk, desc_of_fd, fd_named}
use Rattle.ufs_model.specs.Descriptors.{closed}
use Rattle.ufs_model.specs.Excuses.{ExcuseFits}
use Rattle.ufs_model.specs.PosixTree.{PosixTree, desc_at}
use Rattle.ufs_model.specs.Refusals.{refusal}
use Rattle.ufs_model.specs.Touched.{IsPartOf, open_part, touched_parts}
use Rattle.ufs_model.specs.declared.data.Actor.{Actor}
use Rattle.ufs_model.specs.declared.data.Ask.{Ask}
use Rattle.ufs_model.specs.declared.data.Desc.{Desc}
use Rattle.ufs_model.specs.declared.data.Entry.{Entry}
use Rattle.ufs_model.specs.declared.data.Errno.TheVariants.{Ebadf}
use Rattle.ufs_model.specs.declared.data.Excuse.{Excuse}
use Rattle.ufs_model.specs.declared.data.Excuse.TheVariants as excuse
use Rattle.ufs_model.specs.declared.data.Op.{Op}
use Rattle.ufs_model.specs.declared.data.PartName.TheVariants as name
use Rattle.ufs_model.specs.declared.data.Reply.{Reply}
use Rattle.ufs_names.specs.Calls.{AreGathered}
use Rattle.ufs_crash_laws.specs.Changes.{asks_commit}
use Rattle.ufs_hand_laws.specs.Draws.{client_after}
use Rattle.ufs_hand_laws.specs.Owned.{each, only, times, without}
use Rattle.ufs_hand_laws.specs.Parts.{ClientPart, is_names}
use Rattle.ufs_hand_laws.specs.declared.fresh.Fresh.{Fresh}
use Rattle.ufs_hand_laws.proofs.Keys.{itself}
use Rattle.ufs_joint.specs.Cells.{NamesCell, Start, View, both_of, given_of, kept_of}
use Rattle.ufs_joint.specs.Draws.{Leaves, MayDraw, drawn}
use Rattle.ufs_joint.specs.NamesHands.{AreNumberedOnce, DirAcknowledgementsMayDraw, IsNamesHand, IsNextOf, MayAcknowledgeDir, MayExcuseNames, NamesExcusesMayDraw, still_leaves}
use Rattle.ufs_turns.specs.NamesLent.{AreNamesIn}
use Rattle.ufs_held.specs.Asking.{IsGuest, faults_of, is_of_turn}
use Rattle.ufs_held.specs.Drawn.{first_fds, fresh_of}
use Rattle.ufs_held.specs.Together.{still_of}
use Rattle.ufs_held.proofs.After.{only_none, without_none}
use Rattle.ufs_held.proofs.Excusing.{its_fault, stop_joined, told_joined}
use Rattle.ufs_noted.specs.Noted.{Noted}
use Rattle.ufs_joint.specs.Servers.{IsAlwaysServedSo, IsServer}
use Rattle.ufs_joint.proofs.Served.{by_server}
use Rattle.ufs_held_names.specs.Dirs.{AsksDir, IsNamesGuest, IsDone, IsRefused, MayAnswer, answered}
use Rattle.ufs_held_names.specs.HeldNames.{HoldsNames}
use Rattle.ufs_held_names.proofs.Files.{files_none, once_none}

-- ---- what it touches, and that nothing refuses it

no_file : (o : Option Desc) (d : Desc) → o ≡ Some d → d.file ≡ None → (client f : ℕ) → IsPartOf (name.Client client ∷ (if is_some (refused_if (is_none o) Ebadf) then [] else open_part (unwrap_or o closed).file)) (name.File f) → ⊥
no_file o d is of client f reached = at (subst (λ (q : Option Desc). IsPartOf (name.Client client ∷ (if is_some (refused_if (is_none q) Ebadf) then [] else open_part (unwrap_or q closed).file)) (name.File f)) is reached)
  where
    names_alone : IsPartOf (name.Names ∷ []) (name.File f) → ⊥
    names_alone (inl e) = cc
    names_alone (inr e) = e

    at : IsPartOf (name.Client client ∷ open_part d.file) (name.File f) → ⊥
    at (inl e) = cc
    at (inr e) = names_alone (subst (λ (q : Option ℕ). IsPartOf (open_part q) (name.File f)) of e)

module _ (part : ClientPart) (ask : Ask) (asks : AsksDir part ask) (t : PosixTree) (asked : IsAsk t ask) where
  desc_is : desc_at t ask.client asks.fd ≡ Some asks.desc
  desc_is = ap (λ (q : Op). desc_of_fd t.fds ask.client (fd_named q)) (sym asks.op_is) ∙ sym asked.desc ∙ asks.named

  pub gathered_dir : AreGathered t ask map.empty
  gathered_dir f reached live = absurd (no_file (desc_at t ask.client asks.fd) asks.desc desc_is asks.of ask.client f (subst (λ (q : Op). IsPartOf (touched_parts t ask.client q) (name.File f)) asks.op_is reached))

  allowed : refusal t ask.client ask.op ≡ None
  allowed = ap (refusal t ask.client) asks.op_is ∙ ap (λ (q : Option Desc). first_of (refused_if (is_none q) Ebadf) None) desc_is

  pub fits_dir : (x : Excuse) → is_of_turn x ≡ true → ExcuseFits t ask.client ask.op x
  fits_dir excuse.Memory e = record { due = λ _. allowed; told = tt }
  fits_dir (excuse.Device fault) e = record { due = λ _. allowed; told = tt }
  fits_dir (excuse.Stopped fault) e = record { due = λ _. allowed; told = tt }
  fits_dir (excuse.Blocks need had) e = absurd cc
  fits_dir excuse.Inodes e = absurd cc
  fits_dir (excuse.Extents need) e = absurd cc

-- ---- it may be drawn

module _ (k : Start) (v : View) (part : ClientPart) (names : NamesCell) (n : ℕ) (pool : BlockSet) (ask : Ask) (by : Actor) (r : Reply) (ticket : ℕ) (has : IsNamesGuest ask.client part names n pool v) (asks : AsksDir part ask) (server : IsServer by) where
  abbrev f : Fresh
  f = record { client = ask.client; seq = ask.seq; by = by; op = ask.op; reply = r }

  who : IsAlwaysServedSo part.fds f
  who = by_server part.fds f asks.needs server

  hand : IsNamesHand v ask.client part names n pool
  hand = record { clients = has.clients; pools = has.pools; names_are = has.names; files = subst AreNumberedOnce (sym has.files) once_none }

  next : IsNextOf ask.client part f
  next = record { low = asks.low; by_client = refl; asked = asks.asked; seq = asks.seq }

  leaves : still_leaves part v ≡ still_of v
  leaves = λ i. record { fds = first_fds (sym has.clients i); files = v.files; pools = v.pools; names = v.names }

  pub may_answer : DirAcknowledgementsMayDraw → NamesExcusesMayDraw → MayAnswer k.is_visible names v r → MayDraw k.geometry k.is_visible v f (still_of v) ticket
  may_answer acks excuses (IsDone is known) =
      let may : MayAcknowledgeDir k.is_visible part names f asks.fd asks.desc = record { op_is = asks.op_is; done = is; is = asks.is; of = asks.of; known = known } in
      subst (λ (l : Leaves). MayDraw k.geometry k.is_visible v f l ticket) leaves (acks k.geometry k.is_visible v ask.client part names n pool f ticket asks.fd asks.desc hand next may who)
  may_answer acks excuses (IsRefused x is kind rest faults stopped committed) =
      let may : MayExcuseNames v part names map.empty map.empty f ask x = record {
        ask_client = refl;
        same_op = refl;
        replied = is;
        told = asks.told;
        gathered = λ t of asked. gathered_dir part ask asks t asked;
        files = files_none v.files has.files;
        device = λ fault same. subst (λ (fs : List ℕ). 1 ≤ times fault fs) (sym faults) (told_joined fault (faults_of x) rest (its_fault x (faults_of x) fault refl same));
        stopped = stopped;
        committed = λ fault by same. committed fault same;
        asks = λ fault same. ap asks_commit asks.op_is;
        fits = λ t asked. fits_dir part ask asks t asked.asked x kind;
      } in
      subst (λ (l : Leaves). MayDraw k.geometry k.is_visible v f l ticket) leaves (excuses k.geometry k.is_visible v ask.client part names n pool map.empty map.empty f ticket ask x hand next may who)

-- ---- the names come to the guest,

module _ (own guest : View) (x : Noted) (held : HoldsNames x own) where
  pub joined_guest : (client : ℕ) (part : ClientPart) (n : ℕ) (pool : BlockSet) → IsGuest client part n pool guest → IsNamesGuest client part held.cell n pool (both_of guest (given_of name.Names own))
  joined_guest client part n pool came = record {
    clients = λ i. came.clients i ++ only_none own.clients i;
    asked = λ i. came.asked i ++ only_none own.asked i;
    files = λ i. came.files i ++ only_none own.files i;
    pools = λ i. came.pools i ++ only_none own.pools i;
    names = λ i. came.names i ++ only (is_names name.Names) (held.alone.names i);
    store = λ i. came.store i ++ only_none own.store i;
  }

  pub may_joined : (visible : Bool) (r : Reply) → MayAnswer visible held.cell guest r → MayAnswer visible held.cell (both_of guest (given_of name.Names own)) r
  may_joined visible r (IsDone is known) = IsDone is known
  may_joined visible r (IsRefused q is kind rest faults stopped committed) = IsRefused q is kind rest (append-nil guest.faults ∙ faults)
      (λ fault same. stop_joined guest.stop own.stop fault (stopped fault same)) (λ fault same. stop_joined guest.stop own.stop fault (committed fault same))

-- and go back

pub names_in : (client : ℕ) (part : ClientPart) (cell : NamesCell) (n : ℕ) (pool : BlockSet) (z : View) → IsNamesGuest client part cell n pool z → AreNamesIn cell z
names_in client part cell n pool z has = record { files = has.files; names = has.names }

pub guest_left : (client : ℕ) (part : ClientPart) (cell : NamesCell) (n : ℕ) (pool : BlockSet) (z : View) → IsNamesGuest client part cell n pool z → IsGuest client part n pool (kept_of name.Names z)
guest_left client part cell n pool z has = record {
  clients = without_none z.clients ∙ has.clients;
  asked = without_none z.asked ∙ has.asked;
  files = without_none z.files ∙ has.files;
  pools = without_none z.pools ∙ has.pools;
  names = ap (without (is_names name.Names)) has.names;
  store = without_none z.store ∙ has.store;
}
