-- A request may be excused by want of memory, or by the store's stop where it asks for a commit, and what is told of it.
use Rattle.std.proofs.Common.{◌≡◌, ◌⊎◌, ℕ, inl, inr, true, false, List, Option, Some, None, refl, sym, ap, ◌∙◌}
use Rattle.std.specs.Prelude.{IfSome, IsSome, is_none}
use Rattle.std.specs.FinMap as fin
use Rattle.ufs_base.specs.Choices.{first_of, refused_if}
use Rattle.ufs_bitmap.specs.Blocks.{BlockSet}
use Rattle.ufs_crash_laws.specs.Changes.{asks_commit}
use Rattle.ufs_file.specs.Hand.{IsEntryOf}
use Rattle.ufs_held.specs.Asking.{IsGuest}
use Rattle.ufs_held.specs.Stopping.{ExcusesByStop, fault_by}
use Rattle.ufs_held.specs.Drawn.{replied_to}
use Rattle.ufs_held.specs.Together.{still_of}
use Rattle.ufs_held_names.specs.Asking.{IsAnsweredNames}
use Rattle.ufs_held_names.specs.Dirs.{answered}
use Rattle.ufs_held_names.proofs.Refusing.{may_reply, still_hand}
use Rattle.ufs_held_names.proofs.Untold.{named_none}
use Rattle.ufs_joint.specs.Cells.{Start, View}
use Rattle.ufs_joint.specs.Draws.{IsAround, MayDraw}
use Rattle.ufs_joint.specs.FileHands.{own_desc}
use Rattle.ufs_joint.specs.NamesHands.{IsNextOf}
use Rattle.ufs_joint.specs.Servers.{NeedsServer}
use Rattle.ufs_joint.proofs.Served.{by_server}
use Rattle.ufs_joint.proofs.StillDraws.{own_fds}
use Rattle.ufs_joint.proofs.StillKinds.{excuse_still}
use Rattle.ufs_joint.specs.KnownDraws.{ExcusesStayKept}
use Rattle.ufs_model.specs.Asks.{fd_named, fd_told, file_in}
use Rattle.ufs_model.specs.Excuses.{ExcuseFits}
use Rattle.ufs_model.specs.History.{IsReplyTo, is_excused, tree_after}
use Rattle.ufs_model.specs.PosixTree.{PosixTree, desc_at}
use Rattle.ufs_model.specs.Refusals.{refusal}
use Rattle.ufs_model.specs.declared.data.Actor.{Actor}
use Rattle.ufs_model.specs.declared.data.Actor.TheVariants.{Primary}
use Rattle.ufs_model.specs.declared.data.Ask.{Ask}
use Rattle.ufs_model.specs.declared.data.Desc.{Desc}
use Rattle.ufs_model.specs.declared.data.Entry.{Entry}
use Rattle.ufs_model.specs.declared.data.Errno.TheVariants.{Ebadf}
use Rattle.ufs_model.specs.declared.data.Excuse.TheVariants as excuse
use Rattle.ufs_model.specs.declared.data.Op.{Op}
use Rattle.ufs_model.specs.declared.data.Op.TheVariants as op
use Rattle.ufs_model.specs.declared.data.Reply.{Reply}
use Rattle.ufs_model.specs.declared.data.Reply.TheVariants as reply
use Rattle.ufs_msg.specs.Answers.{IsTold}
use Rattle.ufs_msg.specs.Requests.{HasClientAlone, IsAsked}
use Rattle.ufs_msg.specs.There.{IsServerThere}
use Rattle.ufs_owner.specs.Owners.{Files}
use Rattle.ufs_hand_laws.specs.Draws.{entry_of}
use Rattle.ufs_hand_laws.specs.Parts.{ClientPart}
use Rattle.ufs_hand_laws.specs.declared.fresh.Fresh.{Fresh}
use Rattle.ufs_promise_laws.specs.Parts.{Parts}
use Rattle.ufs_turns.specs.Lent.{stop_in}
use Rattle.ufs_at_primary.specs.Excused.{IsOpened, excuse_at}
use Rattle.ufs_at_primary.specs.Kinds.{IsByNames, IsOnFile}
use Rattle.ufs_at_primary.specs.Named.{server_at, server_told}
use Rattle.ufs_at_primary.specs.Served.{IsAway, OfAll, OfNames, OnIt, Wants}
use Rattle.ufs_at_primary.specs.Stock.{StockState}
use Rattle.ufs_at_primary.proofs.NamesTold.{names_told}

-- ---- why

-- no fault of the device is told
pub no_fault : (stop : Option ℕ) → fault_by (reply.Excused (excuse_at stop)) ≡ None
no_fault None = refl
no_fault (Some fault) = refl

no_device : (stop : Option ℕ) (fault : ℕ) → excuse_at stop ≡ excuse.Device fault → ⊥
no_device None fault is = cc
no_device (Some n) fault is = cc

stop_of : (stop : Option ℕ) (fault : ℕ) → excuse_at stop ≡ excuse.Stopped fault → stop ≡ Some fault
stop_of None fault is = absurd cc
stop_of (Some n) fault is = (let same : n ≡ fault = cc in ap Some same)

stop_said : (stop : Option ℕ) (fault : ℕ) → reply.Excused (excuse_at stop) ≡ reply.Excused (excuse.Stopped fault) → stop ≡ Some fault
stop_said stop fault is = (let same : excuse_at stop ≡ excuse.Stopped fault = cc in stop_of stop fault same)

-- so the store's stop is told
pub tells_stop : (o : Option View) (stop : Option ℕ) (r : Reply) → r ≡ reply.Excused (excuse_at stop) → IfSome o (λ v. stop ≡ stop_in v.store) → ExcusesByStop o r
tells_stop None stop r is at = tt
tells_stop (Some v) stop r is at = record {
  halted = λ fault has. is ∙ ap (λ (s : Option ℕ). reply.Excused (excuse_at s)) (at ∙ has);
  only = λ fault said. sym at ∙ stop_said stop fault (sym is ∙ said);
}

-- ---- it isn't refused

there : (o : Option Desc) → IsSome o → first_of (refused_if (is_none o) Ebadf) None ≡ None
there None none = absurd cc
there (Some d) some = refl

unrefused : (t : PosixTree) (client : ℕ) (o : Op) (d : Option Desc) → ((fd : ℕ) → o ≡ op.Fsync fd → d ≡ desc_at t client fd) → asks_commit o ≡ true → (o ≡ op.Sync) ⊎ IsSome d → refusal t client o ≡ None
unrefused t client op.Sync d own asks opened = refl
unrefused t client (op.Fsync fd) d own asks (inl is) = absurd cc
unrefused t client (op.Fsync fd) d own asks (inr some) = ap (λ (o : Option Desc). first_of (refused_if (is_none o) Ebadf) None) (sym (own fd refl)) ∙ there d some
unrefused t client _ d own asks opened = absurd cc

opened_desc : (d : Option Desc) (file : ℕ) → file_in d ≡ Some file → IsSome d
opened_desc None file is = absurd cc
opened_desc (Some d) file is = refl

pub opened_on : (ask : Ask) (file : ℕ) → IsOnFile ask file → IsOpened ask
opened_on ask file on = λ asks. inr (opened_desc ask.desc file on.of)

pub opened_named : (ask : Ask) → IsByNames ask → IsOpened ask
opened_named ask named = λ asks. absurd (let none = named.no_commit in let clash : true ≡ false = sym asks ∙ none in cc)

-- nor is one that wants a file that is away
pub opened_away : (s : StockState) (ask : Ask) (file : ℕ) → IsAway s ask file → IsOpened ask
opened_away s ask file away = by away.wants
  where
    by : Wants s ask file → IsOpened ask
    by (OnIt kind here none) = opened_on ask file kind
    by (OfNames kind needed here) = opened_named ask kind
    by (OfAll sync) = λ asks. inl sync

-- ---- its entry

-- before it has a ticket
abbrev pub excused_by : Ask → Option ℕ → Fresh
excused_by ask stop = replied_to ask Primary (reply.Excused (excuse_at stop))

pub next_of : (k : Start) (ask : Ask) (stop : Option ℕ) (v : View) (asked : IsAsked k ask v) → IsNextOf ask.client asked.self (excused_by ask stop)
next_of k ask stop v asked = record { low = asked.low; by_client = refl; asked = asked.asked; seq = asked.seq }

module _ (k : Start) (v : View) (part : ClientPart) (n : ℕ) (pool : BlockSet) (ask : Ask) (stop : Option ℕ) (ticket : ℕ) (has : IsGuest ask.client part n pool v) (next : IsNextOf ask.client part (excused_by ask stop)) (needs : NeedsServer part.fds ask.client ask.op)
    (named : ask.desc ≡ own_desc part.fds (fd_named ask.op)) (knows : (fault : ℕ) → stop ≡ Some fault → (v.stop ≡ Some fault) × (asks_commit ask.op ≡ true)) (opened : IsOpened ask) where
  -- want of memory excuses any request, and a stop one that POSIX doesn't refuse
  due : (start : PosixTree) (history : List Entry) (p : Parts) (rest : BlockSet) → IsAround k.geometry v ticket start history p rest → IsReplyTo (tree_after start history) (entry_of ticket (excused_by ask stop))
  due start history p rest a = inr (by stop (λ fault is. (knows fault is).1))
    where
      own : (fd : ℕ) → fin.get part.fds fd ≡ desc_at (tree_after start history) ask.client fd
      own = own_fds k.geometry v ask.client part n pool (excused_by ask stop) ticket (still_hand k v ask.client part n pool (excused_by ask stop) ticket has next) next start history p rest a

      by : (s : Option ℕ) → ((fault : ℕ) → s ≡ Some fault → asks_commit ask.op ≡ true) → ExcuseFits (tree_after start history) ask.client ask.op (excuse_at s)
      by None asks = record { due = λ no. absurd cc; told = tt }
      by (Some fault) asks =
          let commits = asks fault refl in
          record { due = λ no. unrefused (tree_after start history) ask.client ask.op ask.desc (λ fd is. named ∙ ap (λ (o : Op). own_desc part.fds (fd_named o)) is ∙ own fd) commits (opened commits); told = tt }

  pub may_excuse : ExcusesStayKept → MayDraw k.geometry k.is_visible v (excused_by ask stop) (still_of v) ticket
  may_excuse stays =
      may_reply k v ask.client part n pool (excused_by ask stop) ticket has next
      (excuse_still v (excused_by ask stop) ticket (excuse_at stop) refl (λ fault is. absurd (no_device stop fault is)) (λ fault is. (knows fault (stop_of stop fault is)).0) (λ fault by is. absurd (no_device stop fault is)) (λ fault is. (knows fault (stop_of stop fault is)).1)) due
      (λ seen s start history p known formed legal fds cells knows on. stays s start history (entry_of ticket (excused_by ask stop)) p known legal refl on) (by_server part.fds (excused_by ask stop) needs tt)

-- ---- what is told

server_same : (owners : Files) (o : Option ℕ) → server_at owners o ≡ server_told owners o o
server_same owners None = refl
server_same owners (Some file) = refl

module _ (k : Start) (ask : Ask) (before : View) (asked : IsAsked k ask before) (owners : Files) (entry : Entry) (owner : Option Actor) (stop : Option ℕ) (of : IsEntryOf ask Primary entry.ticket entry) (replied : entry.reply ≡ reply.Excused (excuse_at stop))
    (guest : View) (back : HasClientAlone ask.client (answered asked.self entry) guest) (owner_is : owner ≡ server_at owners (file_in ask.desc)) (there : IfSome owner (IsServerThere k)) where
  is_answered : IsAnsweredNames asked.self entry ask.desc (answered asked.self entry)
  is_answered = record {
    fds = asked.self.fds;
    is = refl;
    stay = λ _. refl;
    this = λ no fd at. absurd (let both = sym no ∙ ap is_excused replied in cc);
    others = λ no fd at. refl;
  }

  no_desc : fd_told entry.op entry.reply ≡ None → ask.desc ≡ None
  no_desc at = asked.desc ∙ ap (λ (o : Op). own_desc asked.self.fds (fd_named o)) (sym of.asked) ∙ ap (own_desc asked.self.fds) (named_none entry.op entry.reply at)

  pub excused_told : IsTold k entry ask.desc owner None guest
  excused_told = names_told k ask before asked owners entry ask.desc owner of (answered asked.self entry) is_answered guest back (λ _. refl) no_desc (owner_is ∙ server_same owners (file_in ask.desc)) there
