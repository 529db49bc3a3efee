-- A client's hand may draw the entry that its client makes itself, whoever has all else.
use Rattle.std.proofs.Common.{◌≡◌, ◌≢◌, ℕ, ◌≤◌, ◌<◌, ◌⊎◌, inl, inr, Bool, true, false, eqb, eq-eqb, List, [], ◌∷◌, ◌++◌, length, Option, Some, None, sym, refl, ap, ◌∙◌, subst, arith}
use Rattle.std.specs.Prelude.{if◌then◌else◌}
use Rattle.std.specs.FinMap as fin
use Rattle.std.specs.Cmp.{nat_cmp_total}
use Rattle.std.specs.FinMap.{nat_cmp-IsAntisymmetric}
use Rattle.ufs_bitmap.specs.Blocks.{BlockSet}
use Rattle.ufs_client.specs.Own.{IsOwnAnswer, is_own}
use Rattle.ufs_joint.specs.Cells.{FileCell, NamesCell, View}
use Rattle.ufs_joint.specs.Draws.{DrawsOnDisk, DrawsTo, IsAround, Leaves, MayDraw, drawn}
use Rattle.ufs_joint.specs.NamesHands.{AreNumberedOnce}
use Rattle.ufs_joint.proofs.StillDraws.{still_goes}
use Rattle.ufs_joint.specs.Beside.{FilesStayBeside, NamesStayBeside}
use Rattle.ufs_joint.specs.KnownDraws.{BesideStaysKept}
use Rattle.ufs_layout.specs.declared.geometry.Geometry.{Geometry}
use Rattle.ufs_model.specs.Asks.{IsAsk, desc_of_fd, fd_told}
use Rattle.ufs_model.specs.History.{IsLegal, is_excused, tree_after}
use Rattle.ufs_model.specs.Posix.{posix}
use Rattle.ufs_model.specs.PosixTree.{PosixTree, desc_at}
use Rattle.ufs_model.specs.declared.data.Actor.TheVariants.{Client}
use Rattle.ufs_model.specs.declared.data.Ask.{Ask}
use Rattle.ufs_model.specs.declared.data.Desc.{Desc}
use Rattle.ufs_model.specs.declared.data.Entry.{Entry}
use Rattle.ufs_model.specs.declared.data.Excuse.{Excuse}
use Rattle.ufs_model.specs.declared.data.Excuse.TheVariants as excuse
use Rattle.ufs_model.specs.declared.data.Op.{Op}
use Rattle.ufs_model.specs.declared.data.Reply.{Reply}
use Rattle.ufs_model.specs.declared.data.Reply.TheVariants as reply
use Rattle.ufs_model.proofs.Facts.Histories.{legal-push}
use Rattle.ufs_model.proofs.Facts.Lookups.{inserted_else, inserted_here, one_or_apart, removed_else, removed_here, same_some}
use Rattle.ufs_hand_laws.specs.Draws.{client_after, entry_of}
use Rattle.ufs_hand_laws.specs.Owned.{Has, count, each}
use Rattle.ufs_hand_laws.specs.Parts.{AskedPart, ClientPart, OwnFds}
use Rattle.ufs_hand_laws.specs.declared.fresh.Fresh.{Fresh}
use Rattle.ufs_hand_laws.proofs.Drawing.{tells_new}
use Rattle.ufs_promise_laws.specs.Parts.{Parts}
use Rattle.ufs_caller.specs.Hands.{HasBoth, self_in}
use Rattle.ufs_caller.specs.Own.{left_by, with_desc}
use Rattle.ufs_caller.proofs.OwnParts as own_parts

-- ---- its descriptor

module _ (fds : OwnFds) (desc : Option Desc) where
  pub with_else : (o : Option ℕ) (n : ℕ) → o ≢ Some n → fin.get (with_desc fds o desc) n ≡ fin.get fds n
  with_else None n ne = refl
  with_else (Some k) n ne = by desc
    where
      apart : n ≡ k → ⊥
      apart e = ne (ap (λ (x : ℕ). Some x) (sym e))

      by : (d : Option Desc) → fin.get (with_desc fds (Some k) d) n ≡ fin.get fds n
      by None = removed_else nat_cmp_total nat_cmp-IsAntisymmetric fds k n apart
      by (Some d) = inserted_else nat_cmp_total nat_cmp-IsAntisymmetric fds k d n apart

  pub with_this : (k : ℕ) → fin.get (with_desc fds (Some k) desc) k ≡ desc
  with_this k = by desc
    where
      by : (d : Option Desc) → fin.get (with_desc fds (Some k) d) k ≡ d
      by None = removed_here nat_cmp_total nat_cmp-IsAntisymmetric fds k
      by (Some d) = inserted_here nat_cmp_total nat_cmp-IsAntisymmetric fds k d

-- the client's descriptors go on as the tree's
pub with_are : (t : PosixTree) (client : ℕ) (o : Op) (r : Reply) (desc : Option Desc) (fds : OwnFds) → ((fd : ℕ) → fin.get fds fd ≡ desc_at t client fd) → IsOwnAnswer t client o r desc
    → (fd : ℕ) → fin.get (with_desc fds (fd_told o r) desc) fd ≡ desc_at (posix t client o).0 client fd
with_are t client o r desc fds same is fd = by (fd_told o r) refl
  where
    at : (k : ℕ) → fd_told o r ≡ Some k → (fd ≡ k) ⊎ (fd ≡ k → ⊥) → fin.get (with_desc fds (Some k) desc) fd ≡ desc_at (posix t client o).0 client fd
    at k told (inl e) = ap (fin.get (with_desc fds (Some k) desc)) e ∙ with_this fds desc k ∙ is.told.this ∙ ap (desc_of_fd (posix t client o).0.fds client) told ∙ ap (desc_at (posix t client o).0 client) (sym e)
    at k told (inr not) =
        let apart : fd_told o r ≢ Some fd = λ e. not (same_some fd k (sym e ∙ told)) in
        with_else fds desc (Some k) fd (λ e. apart (told ∙ e)) ∙ same fd ∙ sym (is.told.others client fd (inr apart))

    by : (x : Option ℕ) → fd_told o r ≡ x → fin.get (with_desc fds x desc) fd ≡ desc_at (posix t client o).0 client fd
    by None none = same fd ∙ sym (is.told.others client fd (inr (λ e. none_is fd (sym none ∙ e))))
      where
        none_is : (n : ℕ) → None ≡ Some n → ⊥
        none_is n e = cc
    by (Some k) told = at k told (one_or_apart nat_cmp_total nat_cmp-IsAntisymmetric fd k)

-- ---- the draw

no_excuse : (r : Reply) → is_excused r ≡ false → (x : Excuse) → r ≡ reply.Excused x → ⊥
no_excuse r plain x e = let b : true ≡ false = sym (ap is_excused e) ∙ plain in cc

abbrev pub fresh_of : Ask → Reply → Fresh
fresh_of ask r = record { client = ask.client; seq = ask.seq; by = Client ask.client; op = ask.op; reply = r }

module _ (stays : BesideStaysKept) (files_stay : FilesStayBeside) (names_stay : NamesStayBeside) (g : Geometry) (visible : Bool) (ask : Ask) (answer : Reply) (desc : Option Desc) (self : ClientPart) (before : AskedPart) (v : View)
    (b : HasBoth ask.client self before v) (low : ask.client < 16) (seq : ask.seq ≡ length self.entries) (asked : self.asked ≡ Some ask.op) (plain : is_excused answer ≡ false)
    (told : (t : PosixTree) → ((fd : ℕ) → fin.get self.fds fd ≡ desc_at t ask.client fd) → IsAsk t ask)
    (own : (t : PosixTree) → IsAsk t ask → is_own t ask.client ask.op ≡ true)
    (is : (t : PosixTree) → IsAsk t ask → IsOwnAnswer t ask.client ask.op answer desc) (ticket : ℕ) where
  abbrev f : Fresh
  f = fresh_of ask answer

  abbrev e : Entry
  e = entry_of ticket f

  abbrev l : Leaves
  l = record { fds = with_desc self.fds (fd_told ask.op answer) desc; files = v.files; pools = v.pools; names = v.names }

  abbrev go : Parts → Parts
  go p = p

  here : Has {A = ℕ × ClientPart} (ask.client, self) v.clients
  here = subst (Has {A = ℕ × ClientPart} (ask.client, self)) (sym b.clients) (inl refl)

  no_file : (file : ℕ) (c : FileCell) → Has (file, c) v.files → ⊥
  no_file file c = subst (λ (cs : List (ℕ × FileCell)). Has (file, c) cs → ⊥) (sym b.files) (λ none. none)

  no_names : (u : Unit {0}) (c : NamesCell) → Has (u, c) v.names → ⊥
  no_names u c = subst (λ (cs : List (Unit {0} × NamesCell)). Has (u, c) cs → ⊥) (sym b.names) (λ none. none)

  no_pool : (n : ℕ) (s : BlockSet) → Has (n, s) v.pools → ⊥
  no_pool n s = subst (λ (cs : List (ℕ × BlockSet)). Has (n, s) cs → ⊥) (sym b.pools) (λ none. none)

  no_files : (file : ℕ) → count eqb file v.files ≡ 0
  no_files file = ap (count eqb file) b.files

  few : (file : ℕ) → count eqb file v.files ≤ 1
  few file = let z = no_files file in omega (arith, z)

  numbered : AreNumberedOnce v.files
  numbered = record { once = few; number = λ file c has. absurd (no_file file c has) }

  module _ (start : PosixTree) (history : List Entry) (p : Parts) (rest : BlockSet) (a : IsAround g v ticket start history p rest) where
    abbrev t : PosixTree
    t = tree_after start history

    abbrev longer : List Entry
    longer = history ++ e ∷ []

    same : (fd : ℕ) → fin.get self.fds fd ≡ desc_at t ask.client fd
    same = a.fds ask.client self here

    is_ask : IsAsk t ask
    is_ask = told t same

    due : IsOwnAnswer t ask.client ask.op answer desc
    due = is t is_ask

    legal : IsLegal start longer
    legal = legal-push start history e a.legal (record { numbered = sym a.so_many; replied = inl due.replied }) (tells_new answer history (λ fault excused. absurd (no_excuse answer plain (excuse.Device fault) excused)))

    goes : tree_after start longer ≡ (posix t ask.client ask.op).0
    goes = own_parts.goes start history p e ask desc refl refl plain is_ask (own t is_ask) due

    bytes : (tree_after start longer).bytes ≡ t.bytes
    bytes = own_parts.bytes_behind start history p e ask desc refl refl plain is_ask (own t is_ask) due

    to : DrawsTo g v f l ticket go start history p rest
    to = record {
      legal = legal;
      served = record { own = λ its. refl; sent = λ no. absurd (let clash : true ≡ false = sym (own t is_ask) ∙ no in cc) };
      fds = λ fd. with_are t ask.client ask.op answer desc self.fds same due fd ∙ ap (λ (u : PosixTree). desc_at u ask.client fd) (sym goes);
      others = λ c not fd. sym (due.told.others c fd (inl not)) ∙ ap (λ (u : PosixTree). desc_at u c fd) (sym goes);
      parts = own_parts.parts_behind start history p e ask desc refl refl plain is_ask (own t is_ask) due a.parts;
      server = a.server;
      none_lost = λ block had. had;
      away = λ file place c has absent. absurd (no_file file c has);
      elsewhere = λ file _ _. ap (λ m. fin.get m file) bytes;
      new = λ file none some. absurd (omega (arith, none, some));
    }

    disk : visible ≡ true → DrawsOnDisk g v f l ticket go start history p rest
    disk seen = record {
      kept = λ s known formed is_rest knows on. stays s start history e p known legal (own_parts.nothing p t ask answer desc is_ask (own t is_ask) due)
          (own_parts.parts_behind start history p e ask desc refl refl plain is_ask (own t is_ask) due a.parts) bytes on;
      files = λ file c has. absurd (no_file file c has);
      others = λ file _ _. files_stay start history e file legal (own_parts.no_file_touched t ask.client ask.op (own t is_ask) file);
      names = λ u c has. absurd (no_names u c has);
      no_names = λ _. names_stay start history e legal (own_parts.no_names_touched t ask.client ask.op (own t is_ask));
    }

  pub may_draw_own : MayDraw g visible v f l ticket
  may_draw_own = record {
    self = self;
    client = here;
    low = low;
    seq = seq;
    asked = asked;
    device = λ fault excused. absurd (no_excuse answer plain (excuse.Device fault) excused);
    stopped = λ fault excused. absurd (no_excuse answer plain (excuse.Stopped fault) excused);
    committed = λ fault asks excused. absurd (no_excuse answer plain (excuse.Device fault) excused);
    asks = λ fault excused. absurd (no_excuse answer plain (excuse.Stopped fault) excused);
    others = with_else self.fds desc (fd_told ask.op answer);
    next = go;
    goes = λ p cells _. still_goes v p numbered cells;
    pool = λ p _ pool_is. pool_is;
    single = few;
    same_names = λ u. refl;
    same_pools = λ m. refl;
    pools_apart = λ m k one other block has _ _ _. absurd (no_pool m one has);
    fewer = λ block had. had;
    known = λ file c has. absurd (no_file file c has);
    names_known = λ u c has. absurd (no_names u c has);
    to = to;
    disk = λ seen start history p rest a. disk start history p rest a seen;
  }

-- ---- what it leaves

module _ (f : Fresh) (desc : Option Desc) (self : ClientPart) (before : AskedPart) (v : View) (b : HasBoth f.client self before v) (ticket : ℕ) where
  self_is : self_in v.clients ≡ self
  self_is = ap self_in b.clients

  pub left_is : left_by f desc v ticket ≡ record { fds = with_desc self.fds (fd_told f.op f.reply) desc; files = v.files; pools = v.pools; names = v.names }
  left_is i = record { fds = with_desc (self_is i).fds (fd_told f.op f.reply) desc; files = v.files; pools = v.pools; names = v.names }

  pub drew : HasBoth f.client (record self { entries = self.entries ++ entry_of ticket f ∷ []; fds = with_desc self.fds (fd_told f.op f.reply) desc; asked = None }) before (drawn ticket f (left_by f desc v ticket) v)
  drew = record {
    clients = (λ i. each (client_after (entry_of ticket f) (left_is i).fds) (b.clients i)) ∙ ap (λ d. (f.client, (if d then (record self { entries = self.entries ++ entry_of ticket f ∷ []; fds = with_desc self.fds (fd_told f.op f.reply) desc; asked = None }) else self)) ∷ []) (eq-eqb f.client f.client refl);
    asked = b.asked;
    files = b.files;
    pools = b.pools;
    names = b.names;
    store = b.store;
  }
