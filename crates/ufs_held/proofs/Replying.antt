-- A request on a file may be acknowledged or excused, by a hand that has its client, the file and a pool.
use Rattle.std.proofs.Common.{◌≡◌, ◌≤◌, ℕ, true, Some, sym, refl, ap, ◌∙◌, subst}
use Rattle.ufs_bitmap.specs.Blocks.{BlockSet}
use Rattle.ufs_file.specs.Hand.{IsFileOf, IsOf}
use Rattle.ufs_model.specs.Asks.{IsAsk, fd_named}
use Rattle.ufs_model.specs.Excuses.{ExcuseFits}
use Rattle.ufs_model.specs.PosixTree.{PosixTree}
use Rattle.ufs_model.specs.declared.data.Actor.{Actor}
use Rattle.ufs_model.specs.declared.data.Ask.{Ask}
use Rattle.ufs_model.specs.declared.data.Excuse.{Excuse}
use Rattle.ufs_model.specs.declared.data.Excuse.TheVariants as excuse
use Rattle.ufs_model.specs.declared.data.Op.TheVariants as op
use Rattle.ufs_model.specs.declared.data.Reply.{Reply}
use Rattle.ufs_model.specs.declared.data.Reply.TheVariants as reply
use Rattle.ufs_crash_laws.specs.Changes.{asks_commit}
use Rattle.ufs_hand_laws.specs.Owned.{times}
use Rattle.ufs_hand_laws.specs.Parts.{ClientPart}
use Rattle.ufs_joint.specs.Cells.{FileCell, Start, View}
use Rattle.ufs_joint.specs.Draws.{Leaves, MayDraw}
use Rattle.ufs_joint.specs.FileHands.{AcknowledgementsMayDraw, ExcusesMayDraw, IsFileHand, MayAcknowledge, MayExcuse, own_desc, same_leaves}
use Rattle.ufs_joint.specs.Servers.{IsAlwaysServedSo, IsServer}
use Rattle.ufs_joint.proofs.Served.{by_server}
use Rattle.ufs_held.specs.Asking.{Asks}
use Rattle.ufs_held.specs.Drawn.{first_fds, replied_to}
use Rattle.ufs_held.specs.Together.{still_of}
use Rattle.ufs_held.proofs.Drawing.{of_desc}

module _ (k : Start) (v : View) (part : ClientPart) (file : ℕ) (cell : FileCell) (n : ℕ) (pool : BlockSet) (ask : Ask) (by : Actor) (ticket : ℕ) (hand : IsFileHand v ask.client part file cell n pool) (asks : Asks part ask) (server : IsServer by) where
  who : (r : Reply) → IsAlwaysServedSo part.fds (replied_to ask by r)
  who r = by_server part.fds (replied_to ask by r) asks.needs server

  leaves : same_leaves part file cell n pool ≡ still_of v
  leaves = λ i. record { fds = first_fds (sym hand.clients i); files = sym hand.files i; pools = sym hand.pools i; names = sym hand.names i }

  pub may_acknowledge : AcknowledgementsMayDraw → (fd : ℕ) → ask.op ≡ op.Fsync fd → IsOf ask.desc file → cell.born ≡ true → (k.is_visible ≡ true → cell.changed ≤ cell.known)
      → MayDraw k.geometry k.is_visible v (replied_to ask by reply.Done) (still_of v) ticket
  may_acknowledge law fd is named born known =
      let d = of_desc ask.desc file named in
      let may : MayAcknowledge k.is_visible ask.client part file cell (replied_to ask by reply.Done) fd d.0 = record {
        low = asks.low;
        by_client = refl;
        asked = asks.asked;
        seq = asks.seq;
        op_is = is;
        done = refl;
        is = sym (asks.told ∙ ap (own_desc part.fds) (ap fd_named is)) ∙ d.1;
        of = d.2;
        known = known;
        born = born;
      } in
      subst (λ (l : Leaves). MayDraw k.geometry k.is_visible v (replied_to ask by reply.Done) l ticket) leaves (law k.geometry k.is_visible v ask.client part file cell n pool (replied_to ask by reply.Done) ticket fd d.0 hand may (who reply.Done))

  pub may_excuse : ExcusesMayDraw → (x : Excuse) → ((fault : ℕ) → x ≡ excuse.Device fault → 1 ≤ times fault v.faults) → ((fault : ℕ) → x ≡ excuse.Stopped fault → v.stop ≡ Some fault)
      → ((fault : ℕ) → asks_commit ask.op ≡ true → x ≡ excuse.Device fault → v.stop ≡ Some fault) → ((fault : ℕ) → x ≡ excuse.Stopped fault → asks_commit ask.op ≡ true)
      → ((t : PosixTree) → IsFileOf cell.value.file t → IsAsk t ask → ExcuseFits t ask.client ask.op x) → MayDraw k.geometry k.is_visible v (replied_to ask by (reply.Excused x)) (still_of v) ticket
  may_excuse law x device stopped at_commit asks_it fits =
      let may : MayExcuse v ask.client part file cell (replied_to ask by (reply.Excused x)) ask x = record {
        low = asks.low;
        by_client = refl;
        asked = asks.asked;
        seq = asks.seq;
        ask_client = refl;
        same_op = refl;
        told = asks.told;
        no_fd = asks.no_fd;
        not_last = asks.not_last;
        on_file = asks.on_file;
        replied = refl;
        device = device;
        stopped = stopped;
        committed = at_commit;
        asks = asks_it;
        fits = fits;
      } in
      subst (λ (l : Leaves). MayDraw k.geometry k.is_visible v (replied_to ask by (reply.Excused x)) l ticket) leaves (law k.geometry k.is_visible v ask.client part file cell n pool (replied_to ask by (reply.Excused x)) ticket ask x hand may (who (reply.Excused x)))
