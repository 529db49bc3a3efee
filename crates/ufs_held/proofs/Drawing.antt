-- A request on a file that a server has may be drawn.
use Rattle.std.proofs.Common.{◌≡◌, ◌≢◌, ℕ, inl, Bool, true, false, cond, List, [], ◌∷◌, Option, Some, None, sym, refl, ap, ◌∙◌, subst}
use Rattle.std.specs.FinMap as fin
use Rattle.std.specs.FinMap.{nat_cmp-IsAntisymmetric}
use Rattle.std.specs.FinSet as set
use Rattle.std.specs.Cmp.{nat_cmp_total}
use Rattle.ufs_bitmap.specs.Blocks.{BlockSet}
use Rattle.ufs_bitmap.specs.Taking.{IsApart}
use Rattle.ufs_file_commits.specs.Serving.{IsApplied}
use Rattle.ufs_file_commits.specs.State.{DurableState, IsNoted, blocks_held}
use Rattle.ufs_file.specs.Hand.{IsCause, IsEntryOf, IsExcusedFor, IsFileOf, IsOf, missing, whole_as}
use Rattle.ufs_model.specs.Asks.{fd_named}
use Rattle.ufs_model.specs.History.{is_excused, tree_after}
use Rattle.ufs_model.specs.declared.data.Actor.{Actor}
use Rattle.ufs_model.specs.declared.data.Ask.{Ask}
use Rattle.ufs_model.specs.declared.data.Desc.{Desc}
use Rattle.ufs_model.specs.declared.data.Entry.{Entry}
use Rattle.ufs_model.specs.declared.data.Excuse.{Excuse}
use Rattle.ufs_model.specs.declared.data.Reply.{Reply}
use Rattle.ufs_model.specs.declared.data.Excuse.TheVariants as excuse
use Rattle.ufs_model.specs.declared.data.Op.{Op}
use Rattle.ufs_model.specs.declared.data.Reply.TheVariants as reply
use Rattle.ufs_model.proofs.Facts.Lookups as lookups
use Rattle.ufs_crash_laws.specs.Changes.{asks_commit}
use Rattle.ufs_hand_laws.specs.Draws.{entry_of, left_faults}
use Rattle.ufs_hand_laws.specs.Owned.{Has, each}
use Rattle.ufs_hand_laws.specs.Parts.{ClientPart, OwnFds}
use Rattle.ufs_hand_laws.specs.declared.fresh.Fresh.{Fresh}
use Rattle.ufs_promise_laws.specs.Parts.{durable_in}
use Rattle.ufs_promise_laws.proofs.Spaced.{pool_apart}
use Rattle.ufs_joint.specs.Cells.{FileCell, Start, View}
use Rattle.ufs_joint.specs.Draws.{Leaves, MayDraw}
use Rattle.ufs_joint.specs.FileHands.{ExcusesMayDraw, FileRequestsMayDraw, IsFileHand, MayExcuse, ServesFile, same_leaves, served_leaves}
use Rattle.ufs_joint.specs.Known.{Knows}
use Rattle.ufs_joint.specs.Rule.{looked_at}
use Rattle.ufs_joint.specs.Servers.{IsAlwaysServedSo, IsServer, NeedsServer}
use Rattle.ufs_joint.specs.Whole.{HasFileCell}
use Rattle.ufs_joint.proofs.Blocks.{pooled_one}
use Rattle.ufs_joint.specs.Whole.{pooled}
use Rattle.ufs_joint.proofs.OneFile.{durable_is}
use Rattle.ufs_joint.proofs.Served.{by_server}
use Rattle.ufs_turns.proofs.Syncing.{file_sound}
use Rattle.ufs_held.specs.Asking.{Asks}
use Rattle.ufs_held.specs.Drawn.{cell_then, fds_with, first_fds, fresh_of, held_leaves}

pub of_desc : (o : Option Desc) (file : ℕ) → IsOf o file → (d : Desc) × (o ≡ Some d) × (d.file ≡ Some file)
of_desc None file is = absurd is
of_desc (Some d) file is = (d, refl, is)

excuse_in : (r : Reply) → is_excused r ≡ true → (x : Excuse) × (r ≡ reply.Excused x)
excuse_in (reply.Excused x) is = (x, refl)
excuse_in reply.Done is = absurd cc
excuse_in (reply.Fd n) is = absurd cc
excuse_in (reply.Count n) is = absurd cc
excuse_in (reply.At n) is = absurd cc
excuse_in (reply.Got bytes) is = absurd cc
excuse_in (reply.IsFile n) is = absurd cc
excuse_in (reply.IsDir n) is = absurd cc
excuse_in (reply.Names names) is = absurd cc
excuse_in (reply.Refused x) is = absurd cc

-- ---- descriptors

pub this_fd : (fds : OwnFds) (o : Option ℕ) (desc : Option Desc) (fd : ℕ) (d : Desc) → o ≡ Some fd → desc ≡ Some d → fin.get (fds_with fds o desc) fd ≡ Some d
this_fd fds o desc fd d named is = ap (λ (q : OwnFds). fin.get q fd) (λ i. fds_with fds (named i) (is i)) ∙ lookups.inserted_here nat_cmp_total nat_cmp-IsAntisymmetric fds fd d

pub other_fds : (fds : OwnFds) (o : Option ℕ) (desc : Option Desc) (fd : ℕ) → o ≢ Some fd → fin.get (fds_with fds o desc) fd ≡ fin.get fds fd
other_fds fds None desc fd not = refl
other_fds fds (Some g) None fd not = refl
other_fds fds (Some g) (Some d) fd not = lookups.inserted_else nat_cmp_total nat_cmp-IsAntisymmetric fds g d fd (λ is. not (ap Some (sym is)))

-- ---- what the hand knows

module _ (k : Start) (n0 : ℕ) (v : View) (knows : Knows k n0 v) (part : ClientPart) (cell : FileCell) (n : ℕ) (x : DurableState) (pool : BlockSet) (ask : Ask) (hand : IsFileHand v ask.client part x.file.file cell n pool) (value : cell.value ≡ x) (asks : Asks part ask) where
  abbrev name : ℕ
  name = x.file.file

  has_file : Has (x.file.file, cell) v.files
  has_file = subst (Has (x.file.file, cell)) (sym hand.files) (inl refl)

  its : HasFileCell knows.parts x.file.file cell
  its = knows.around.cells.files x.file.file cell has_file

  here : fin.get knows.parts.files cell.value.file.file ≡ Some cell.value.file
  here = ap (fin.get knows.parts.files) hand.number ∙ its.file_is

  durable : durable_in knows.parts.commits cell.value.file ≡ cell.value
  durable = durable_is knows.parts x.file.file cell hand.number its

  pub noted : IsNoted x
  noted = subst IsNoted value (file_sound k n0 v knows x.file.file cell has_file hand.number).noted

  its_pool : knows.parts.pool ≡ pool
  its_pool = knows.around.pool ∙ ap pooled hand.pools ∙ pooled_one n pool

  pub apart : IsApart pool (blocks_held x)
  apart = subst (λ (q : BlockSet × DurableState). IsApart q.0 (blocks_held q.1)) (λ i. (its_pool i, (durable ∙ value) i))
      (pool_apart knows.rest knows.parts cell.value.file here (knows.around.server.each cell.value.file.file cell.value.file here).once knows.around.server.apart)

  file_of : IsFileOf x.file (tree_after knows.start knows.history)
  file_of = subst (λ (q : DurableState). IsFileOf q.file (tree_after knows.start knows.history)) value (knows.around.parts.files cell.value.file.file cell.value.file here).1

  abbrev w : View
  w = looked_at v n0

  looked : IsFileHand w ask.client part x.file.file cell n pool
  looked = record { clients = hand.clients; files = hand.files; pools = hand.pools; names = hand.names; number = hand.number }

  -- ---- once it is applied

  module _ (y : DurableState) (left : BlockSet) (by : Actor) (entry : Entry) (desc : Option Desc) (applied : IsApplied x y pool left ask by 0 entry desc) (number : y.file.file ≡ x.file.file)
      (fewer : (block : ℕ) → set.contains left block ≡ true → set.contains pool block ≡ true) (no_commit : asks_commit ask.op ≡ false) (named : IsOf ask.desc x.file.file) (server : IsServer by) where
    abbrev f : Fresh
    f = fresh_of entry

    of_ask : IsEntryOf ask by 0 entry
    of_ask = applied.of_ask

    who : IsAlwaysServedSo part.fds f
    who = by_server part.fds f (subst (λ (q : ℕ × Op). NeedsServer part.fds q.0 q.1) (λ i. (sym of_ask.client i, sym of_ask.asked i)) asks.needs) (subst IsServer (sym of_ask.server) server)

    d : (d : Desc) × (ask.desc ≡ Some d) × (d.file ≡ Some x.file.file)
    d = of_desc ask.desc x.file.file named

    applied_at : (t : ℕ) → IsApplied cell.value y pool left ask by t (entry_of t f) desc
    applied_at t = subst (λ (q : DurableState). IsApplied q y pool left ask by t (entry_of t f) desc) (sym value) (record {
      of_ask = record { ticket_is = refl; client = of_ask.client; seq = of_ask.seq; server = of_ask.server; asked = of_ask.asked };
      served = applied.served;
      goes_on = applied.goes_on;
      excused = applied.excused;
      posix = applied.posix;
      fits = applied.fits;
      few = applied.few;
      marks = applied.marks;
      held = applied.held;
      written = applied.written;
      away = applied.away;
      kept = applied.kept;
      pool = applied.pool;
      same_desc = applied.same_desc;
    })

    abbrev fds : OwnFds
    fds = fds_with part.fds (fd_named f.op) desc

    same_fd : fd_named f.op ≡ fd_named ask.op
    same_fd = ap fd_named of_ask.asked

    -- served
    module _ (served : is_excused f.reply ≡ false) (t : ℕ) where
      told : (q : Desc) × (desc ≡ Some q)
      told = (_, (applied.served served d.0 d.1 file_of.bytes file_of.may).told)

      serves : ServesFile ask.client part x.file.file cell pool left f t ask by d.0 y desc fds
      serves = record {
        low = asks.low;
        by_client = of_ask.client;
        asked = asks.asked ∙ ap Some (sym of_ask.asked);
        seq = of_ask.seq ∙ asks.seq;
        ask_client = refl;
        told = asks.told;
        no_fd = asks.no_fd;
        not_last = asks.not_last;
        on_file = asks.on_file;
        no_commit = ap asks_commit of_ask.asked ∙ no_commit;
        is = d.1;
        of = d.2;
        applied = applied_at t;
        served = served;
        same_file = number;
        fewer = fewer;
        this_fd = λ fd is. this_fd part.fds (fd_named f.op) desc fd told.0 (same_fd ∙ is) told.1 ∙ sym told.1;
        other_fds = λ fd not. other_fds part.fds (fd_named f.op) desc fd (λ is. not (sym same_fd ∙ is));
      }

      leaves_are : held_leaves f w y left desc t ≡ served_leaves fds x.file.file cell y t n left
      leaves_are = λ i. record {
        fds = cond (served i) (first_fds (hand.clients i)) (fds_with (first_fds (hand.clients i)) (fd_named f.op) desc);
        files = each (λ _ c. cell_then (served i) y t c) (hand.files i);
        pools = each (λ _ s. left) (hand.pools i);
        names = [];
      }

      may_served : FileRequestsMayDraw → MayDraw k.geometry k.is_visible w f (held_leaves f w y left desc t) t
      may_served law = subst (λ (q : Leaves). MayDraw k.geometry k.is_visible w f q t) (sym leaves_are) (law k.geometry k.is_visible w ask.client part x.file.file cell n pool left f t ask by d.0 y desc fds looked serves who)

    -- excused
    module _ (excused : is_excused f.reply ≡ true) (t : ℕ) where
      reason : (e : Excuse) × (f.reply ≡ reply.Excused e)
      reason = excuse_in f.reply excused

      caused : IsExcusedFor (whole_as file_of.bytes x.file) d.0 ask.op pool reason.0
      caused = applied.excused reason.0 reason.1 d.0 d.1 file_of.bytes file_of.may

      may_excuse : MayExcuse w ask.client part x.file.file cell f ask reason.0
      may_excuse = record {
        low = asks.low;
        by_client = of_ask.client;
        asked = asks.asked ∙ ap Some (sym of_ask.asked);
        seq = of_ask.seq ∙ asks.seq;
        ask_client = refl;
        same_op = of_ask.asked;
        told = asks.told;
        no_fd = asks.no_fd;
        not_last = asks.not_last;
        on_file = asks.on_file;
        replied = reason.1;
        device = λ fault is. absurd (subst (IsCause (whole_as file_of.bytes x.file).extents (missing (whole_as file_of.bytes x.file) d.0 ask.op) pool) is caused.cause);
        stopped = λ fault is. absurd (subst (IsCause (whole_as file_of.bytes x.file).extents (missing (whole_as file_of.bytes x.file) d.0 ask.op) pool) is caused.cause);
        committed = λ fault by is. absurd (subst (IsCause (whole_as file_of.bytes x.file).extents (missing (whole_as file_of.bytes x.file) d.0 ask.op) pool) is caused.cause);
        asks = λ fault is. absurd (subst (IsCause (whole_as file_of.bytes x.file).extents (missing (whole_as file_of.bytes x.file) d.0 ask.op) pool) is caused.cause);
        fits = λ tree of asked. applied.fits reason.0 reason.1 tree (subst (λ (q : DurableState). IsFileOf q.file tree) value of) asked;
      }

      leaves_stay : held_leaves f w y left desc t ≡ same_leaves part x.file.file cell n pool
      leaves_stay =
          (λ i. record {
            fds = cond (excused i) (first_fds (hand.clients i)) (fds_with (first_fds (hand.clients i)) (fd_named f.op) desc);
            files = each (λ _ c. cell_then (excused i) y t c) (hand.files i);
            pools = each (λ _ s. left) (hand.pools i);
            names = [];
          }) ∙ (λ i. record { fds = part.fds; files = (x.file.file, cell) ∷ []; pools = (n, applied.pool excused i) ∷ []; names = [] })

      may_excused : ExcusesMayDraw → MayDraw k.geometry k.is_visible w f (held_leaves f w y left desc t) t
      may_excused law = subst (λ (q : Leaves). MayDraw k.geometry k.is_visible w f q t) (sym leaves_stay) (law k.geometry k.is_visible w ask.client part x.file.file cell n pool f t ask reason.0 looked may_excuse who)

    pub may_draw : FileRequestsMayDraw → ExcusesMayDraw → (t : ℕ) → MayDraw k.geometry k.is_visible w f (held_leaves f w y left desc t) t
    may_draw requests excuses t = by_reply (is_excused f.reply) refl
      where
        by_reply : (b : Bool) → is_excused f.reply ≡ b → MayDraw k.geometry k.is_visible w f (held_leaves f w y left desc t) t
        by_reply true is = may_excused is t excuses
        by_reply false is = may_served is t requests

    -- no fault of the device excuses it
    pub calm : (faults : List ℕ) → left_faults f.reply faults ≡ faults
    calm faults = of_reply f.reply refl
      where
        of_reply : (r : Reply) → f.reply ≡ r → left_faults r faults ≡ faults
        of_reply (reply.Excused (excuse.Device n)) is = absurd ((applied.excused (excuse.Device n) is d.0 d.1 file_of.bytes file_of.may).cause)
        of_reply (reply.Excused excuse.Memory) is = refl
        of_reply (reply.Excused (excuse.Stopped n)) is = refl
        of_reply (reply.Excused (excuse.Blocks need had)) is = refl
        of_reply (reply.Excused excuse.Inodes) is = refl
        of_reply (reply.Excused (excuse.Extents need)) is = refl
        of_reply reply.Done is = refl
        of_reply (reply.Fd n) is = refl
        of_reply (reply.Count n) is = refl
        of_reply (reply.At n) is = refl
        of_reply (reply.Got bytes) is = refl
        of_reply (reply.IsFile n) is = refl
        of_reply (reply.IsDir n) is = refl
        of_reply (reply.Names names) is = refl
        of_reply (reply.Refused x) is = refl
