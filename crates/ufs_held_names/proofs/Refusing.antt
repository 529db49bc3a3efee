-- A request is replied to, and nothing changes. An `fsync` of a descriptor that its client doesn't have is refused.
use Rattle.std.proofs.Common.{◌≡◌, ℕ, inl, cond, eqb, Bool, true, List, [], ◌∷◌, Option, Some, None, sym, refl, ap, ◌∙◌, subst}
use Rattle.std.specs.Prelude.{is_none}
use Rattle.ufs_base.specs.Choices.{first_of, refused_if}
use Rattle.ufs_bitmap.specs.Blocks.{BlockSet}
use Rattle.ufs_joint.specs.KnownDraws.{StillStaysKept}
use Rattle.ufs_model.specs.History.{tree_after}
use Rattle.ufs_model.specs.Posix.{posix, served}
use Rattle.ufs_model.specs.PosixTree.{PosixTree, desc_at}
use Rattle.ufs_model.specs.declared.data.Actor.{Actor}
use Rattle.ufs_model.specs.declared.data.Ask.{Ask}
use Rattle.ufs_model.specs.declared.data.Desc.{Desc}
use Rattle.ufs_model.specs.declared.data.Entry.{Entry}
use Rattle.ufs_model.specs.declared.data.Errno.TheVariants.{Ebadf}
use Rattle.ufs_model.specs.declared.data.Op.{Op}
use Rattle.ufs_model.specs.declared.data.Op.TheVariants as op
use Rattle.ufs_model.specs.declared.data.Reply.TheVariants as reply
use Rattle.ufs_hand_laws.specs.Draws.{client_after, entry_of}
use Rattle.ufs_hand_laws.specs.Owned.{each}
use Rattle.ufs_hand_laws.specs.Parts.{ClientPart}
use Rattle.ufs_hand_laws.specs.declared.fresh.Fresh.{Fresh}
use Rattle.ufs_hand_laws.proofs.Keys.{itself}
use Rattle.ufs_promise_laws.specs.Laws.{leaves_tree}
use Rattle.ufs_promise_laws.proofs.Entries.{tree_left}
use Rattle.ufs_joint.specs.Cells.{Start, View}
use Rattle.ufs_joint.specs.Draws.{Leaves, MayDraw}
use Rattle.ufs_joint.specs.NamesHands.{AreNumberedOnce, IsNextOf, still_leaves}
use Rattle.ufs_joint.proofs.StillDraws.{Acknowledges, IsRepliedTo, IsStill, IsStillHand, may_draw, own_fds}
use Rattle.ufs_joint.specs.Servers.{IsAlwaysServedSo, IsServer}
use Rattle.ufs_joint.proofs.Served.{by_server}
use Rattle.ufs_held.specs.Asking.{IsGuest}
use Rattle.ufs_held.specs.Drawn.{first_fds, fresh_of}
use Rattle.ufs_held.specs.Together.{HasDrawnStill, still_of}
use Rattle.ufs_held_names.specs.Dirs.{AsksUnopened, answered}
use Rattle.ufs_held_names.proofs.Files.{once_none}

-- A hand with a client and a pool may reply to its request by an entry that changes nothing.
module _ (k : Start) (v : View) (client : ℕ) (part : ClientPart) (n : ℕ) (pool : BlockSet) (f : Fresh) (ticket : ℕ) (has : IsGuest client part n pool v) (next : IsNextOf client part f) where
  pub still_hand : IsStillHand v client part n pool
  still_hand = record { clients = has.clients; pools = has.pools; files = subst AreNumberedOnce (sym has.files) once_none }

  leaves : still_leaves part v ≡ still_of v
  leaves = λ i. record { fds = first_fds (sym has.clients i); files = v.files; pools = v.pools; names = v.names }

  pub may_reply : IsStill v f ticket → IsRepliedTo k.geometry v f ticket → Acknowledges k.geometry k.is_visible v part f ticket → IsAlwaysServedSo part.fds f → MayDraw k.geometry k.is_visible v f (still_of v) ticket
  may_reply still due acks who = subst (λ (l : Leaves). MayDraw k.geometry k.is_visible v f l ticket) leaves (may_draw k.geometry k.is_visible v client part n pool f ticket still_hand next still due acks who)

refused_by : (t : PosixTree) (client fd : ℕ) → desc_at t client fd ≡ None → (posix t client (op.Fsync fd)).1 ≡ reply.Refused Ebadf
refused_by t client fd is = ap (λ (o : Option Desc). (served t client (op.Fsync fd) (first_of (refused_if (is_none o) Ebadf) None)).1) is

module _ (k : Start) (v : View) (part : ClientPart) (n : ℕ) (pool : BlockSet) (ask : Ask) (by : Actor) (ticket : ℕ) (has : IsGuest ask.client part n pool v) (asks : AsksUnopened part ask) (server : IsServer by) where
  abbrev f : Fresh
  f = record { client = ask.client; seq = ask.seq; by = by; op = ask.op; reply = reply.Refused Ebadf }

  next : IsNextOf ask.client part f
  next = record { low = asks.low; by_client = refl; asked = asks.asked; seq = asks.seq }

  still : IsStill v f ticket
  still = record {
    device = λ fault e. absurd cc;
    stopped = λ fault e. absurd cc;
    committed = λ fault by e. absurd cc;
    asks = λ fault e. absurd cc;
    leaves = λ t. tree_left t (entry_of ticket f) (ap leaves_tree asks.op_is);
    no_change = λ t file. refl;
    no_names = λ t. refl;
  }

  due : IsRepliedTo k.geometry v f ticket
  due start history p rest a =
      let t = tree_after start history in
      let none : desc_at t ask.client asks.fd ≡ None = sym (own_fds k.geometry v ask.client part n pool f ticket (still_hand k v ask.client part n pool f ticket has next) next start history p rest a asks.fd) ∙ asks.none in
      inl (sym (ap (λ (o : Op). (posix t ask.client o).1) asks.op_is ∙ refused_by t ask.client asks.fd none))

  acks : StillStaysKept → Acknowledges k.geometry k.is_visible v part f ticket
  acks stays seen s start history p known formed legal fds cells knows on = stays s start history (entry_of ticket f) p known legal (ap leaves_tree asks.op_is) (inl refl) on

  pub may_refuse : StillStaysKept → MayDraw k.geometry k.is_visible v f (still_of v) ticket
  may_refuse stays = may_reply k v ask.client part n pool f ticket has next still due (acks stays) (by_server part.fds f asks.needs server)

-- the client goes back with one more entry
pub replied_guest : (client : ℕ) (part : ClientPart) (n : ℕ) (pool : BlockSet) (v z : View) (e : Entry) → IsGuest client part n pool v → e.client ≡ client → HasDrawnStill e.ticket (fresh_of e) v z → IsGuest client (answered part e) n pool z
replied_guest client part n pool v z e has of_client drew = record {
  clients =
      drew.clients
      ∙ (λ i. each (client_after e (first_fds (has.clients i))) (has.clients i))
      ∙ ap (λ (b : Bool). (client, cond b (answered part e) part) ∷ []) (ap (λ (c : ℕ). eqb c client) of_client ∙ itself client);
  asked = drew.asked ∙ has.asked;
  files = drew.files ∙ has.files;
  pools = drew.pools ∙ has.pools;
  names = drew.names ∙ has.names;
  store = drew.store ∙ has.store;
}
