-- Want of memory excuses a `sync`, on the hand of its client alone.
use Rattle.std.proofs.Common.{◌≡◌, ℕ, ◌≤◌, inl, inr, true, false, eqb, eq-eqb, List, [], ◌∷◌, ◌++◌, Some, None, sym, refl, ap, ◌∙◌, subst, arith}
use Rattle.std.specs.Prelude.{if◌then◌else◌}
use Rattle.std.specs.FinMap as fin
use Rattle.ufs_bitmap.specs.Blocks.{BlockSet}
use Rattle.ufs_model.specs.History.{IsExcused, tree_after}
use Rattle.ufs_model.specs.PosixTree.{PosixTree, desc_at}
use Rattle.ufs_model.specs.declared.data.Actor.TheVariants.{Primary}
use Rattle.ufs_model.specs.declared.data.Ask.{Ask}
use Rattle.ufs_model.specs.declared.data.Entry.{Entry}
use Rattle.ufs_model.specs.declared.data.Excuse.TheVariants.{Memory}
use Rattle.ufs_model.specs.declared.data.Op.{Op}
use Rattle.ufs_model.specs.declared.data.Op.TheVariants.{Sync}
use Rattle.ufs_model.specs.declared.data.Reply.TheVariants.{Excused}
use Rattle.ufs_model.proofs.Facts.Histories.{legal-push, tree_after-push}
use Rattle.ufs_hand_laws.specs.Draws.{client_after, entry_of}
use Rattle.ufs_hand_laws.specs.Owned.{Has, count, each}
use Rattle.ufs_hand_laws.specs.Parts.{ClientPart}
use Rattle.ufs_hand_laws.specs.declared.fresh.Fresh.{Fresh}
use Rattle.ufs_hand_laws.proofs.Drawing.{tells_new}
use Rattle.ufs_promise_laws.specs.Parts.{Parts}
use Rattle.ufs_promise_laws.specs.Stored.{ArePartsOf}
use Rattle.ufs_promise_laws.proofs.Entries.{excuse_leaves}
use Rattle.ufs_joint.specs.Cells.{FileCell, NamesCell, Start, View}
use Rattle.ufs_joint.specs.Draws.{DrawsTo, IsAround, Leaves, MayDraw, drawn}
use Rattle.ufs_joint.specs.NamesHands.{AreNumberedOnce}
use Rattle.ufs_joint.specs.Rule.{MayDrawAny}
use Rattle.ufs_joint.proofs.StillDraws.{still_goes}
use Rattle.ufs_msg.specs.Answers.{IsTold}
use Rattle.ufs_msg.specs.Requests.{HasClientAlone, IsAsked}
use Rattle.ufs_caller.specs.Hands.{self_in}
use Rattle.ufs_caller.specs.Own.{left_by}

abbrev pub excuse_of : Ask → Fresh
excuse_of ask = record { client = ask.client; seq = ask.seq; by = Primary; op = Sync; reply = Excused Memory }

none_some : {A : Type 0} (x : A) → None ≡ Some x → ⊥
none_some x e = cc

true_false : true ≡ false → ⊥
true_false e = cc

module _ (k : Start) (blind : k.is_visible ≡ false) (ask : Ask) (v : View) (is : IsAsked k ask v) (sync : ask.op ≡ Sync) where
  abbrev f : Fresh
  f = excuse_of ask

  abbrev l : Leaves
  l = record { fds = is.self.fds; files = v.files; pools = v.pools; names = v.names }

  here : Has {A = ℕ × ClientPart} (ask.client, is.self) v.clients
  here = subst (Has {A = ℕ × ClientPart} (ask.client, is.self)) (sym is.alone.clients) (inl refl)

  no_file : (file : ℕ) (c : FileCell) → Has (file, c) v.files → ⊥
  no_file file c = subst (λ (cs : List (ℕ × FileCell)). Has (file, c) cs → ⊥) (sym is.alone.files) (λ none. none)

  no_names : (u : Unit {0}) (c : NamesCell) → Has (u, c) v.names → ⊥
  no_names u c = subst (λ (cs : List (Unit {0} × NamesCell)). Has (u, c) cs → ⊥) (sym is.alone.names) (λ none. none)

  no_pool : (n : ℕ) (s : BlockSet) → Has (n, s) v.pools → ⊥
  no_pool n s = subst (λ (cs : List (ℕ × BlockSet)). Has (n, s) cs → ⊥) (sym is.alone.pools) (λ none. none)

  few : (file : ℕ) → count eqb file v.files ≤ 1
  few file = let z = ap (count eqb file) is.alone.files in omega (arith, z)

  numbered : AreNumberedOnce v.files
  numbered = record { once = few; number = λ file c has. absurd (no_file file c has) }

  module _ (ticket : ℕ) (start : PosixTree) (history : List Entry) (p : Parts) (rest : BlockSet) (a : IsAround k.geometry v ticket start history p rest) where
    abbrev e : Entry
    e = entry_of ticket f

    abbrev t : PosixTree
    t = tree_after start history

    abbrev longer : List Entry
    longer = history ++ entry_of ticket f ∷ []

    same_tree : tree_after start longer ≡ t
    same_tree = tree_after-push start history e ∙ excuse_leaves t ask.client Sync (Excused Memory) refl

    fits : IsExcused t ask.client Sync (Excused Memory)
    fits = record { due = λ other. cc; told = tt }

    to : DrawsTo k.geometry v f l ticket (λ q. q) start history p rest
    to = record {
      legal = legal-push start history e a.legal (record { numbered = sym a.so_many; replied = inr fits }) (tells_new (Excused Memory) history (λ fault other. cc));
      served = record { own = λ its. cc; sent = λ its. tt };
      fds = λ x. a.fds ask.client is.self here x ∙ ap (λ (u : PosixTree). desc_at u ask.client x) (sym same_tree);
      others = λ c not x. ap (λ (u : PosixTree). desc_at u c x) (sym same_tree);
      parts = subst (ArePartsOf p) (sym same_tree) a.parts;
      server = a.server;
      none_lost = λ block had. had;
      away = λ file place c has absent. absurd (no_file file c has);
      elsewhere = λ file _ _. ap (λ (u : PosixTree). fin.get u.bytes file) same_tree;
      new = λ file none some. absurd (omega (arith, none, some));
    }

  may_draw : (ticket : ℕ) → MayDraw k.geometry k.is_visible v f l ticket
  may_draw ticket = record {
    self = is.self;
    client = here;
    low = is.low;
    seq = is.seq;
    asked = is.asked ∙ ap (λ (o : Op). Some o) sync;
    device = λ fault other. cc;
    stopped = λ fault other. cc;
    committed = λ fault by other. cc;
    asks = λ fault other. cc;
    others = λ fd not. refl;
    next = λ q. q;
    goes = λ p cells _. still_goes v p numbered cells;
    pool = λ p _ pool_is. pool_is;
    single = few;
    same_names = λ u. refl;
    same_pools = λ m. refl;
    pools_apart = λ m k one other block has _ _ _. absurd (no_pool m one has);
    fewer = λ block had. had;
    known = λ file c has. absurd (no_file file c has);
    names_known = λ u c has. absurd (no_names u c has);
    to = to ticket;
    disk = λ seen. absurd (true_false (sym seen ∙ blind));
  }

  left_is : (ticket : ℕ) → left_by f None v ticket ≡ l
  left_is ticket i = record { fds = (self_in (is.alone.clients i)).fds; files = v.files; pools = v.pools; names = v.names }

  pub may_excuse : MayDrawAny k v f (left_by f None v)
  may_excuse ticket = subst (λ (x : Leaves). MayDraw k.geometry k.is_visible v f x ticket) (sym (left_is ticket)) (may_draw ticket)

  -- ---- what it leaves

  module _ (ticket : ℕ) where
    abbrev after : ClientPart
    after = record is.self { entries = is.self.entries ++ entry_of ticket f ∷ []; fds = is.self.fds; asked = None }

    left_alone : HasClientAlone ask.client after (drawn ticket f (left_by f None v ticket) v)
    left_alone = record {
      clients = (λ i. each (client_after (entry_of ticket f) (left_is ticket i).fds) (is.alone.clients i))
          ∙ ap (λ d. (ask.client, (if d then (record is.self { entries = is.self.entries ++ entry_of ticket f ∷ []; fds = is.self.fds; asked = None }) else is.self)) ∷ []) (eq-eqb ask.client ask.client refl);
      asked = is.alone.asked;
      files = is.alone.files;
      pools = is.alone.pools;
      names = is.alone.names;
      store = is.alone.store;
    }

    pub told_so : IsTold k (entry_of ticket f) None None None (drawn ticket f (left_by f None v ticket) v)
    told_so = record {
      mine = is.there;
      self = after;
      alone = left_alone;
      low = is.low;
      before = is.self.entries;
      last = refl;
      seq = is.seq;
      few = is.few;
      idle = refl;
      by = tt;
      desc_is = refl;
      owned = λ d file none of. absurd (none_some d none);
      unowned = λ none. refl;
      there = λ who none. absurd (none_some who none);
      granted = λ lease none. absurd (none_some lease none);
      unleased = is.unleased;
    }
