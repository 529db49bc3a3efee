use Rattle.std.proofs.Common.{◌≡◌, ◌++◌, ℕ, List, None, Some, Option, ap, refl, sym, subst, ◌∙◌}
use Rattle.std.proofs.lemmas.List.{append-nil}
use Rattle.std.specs.Prelude.{OnErr, Result, Ok, Err}
use Rattle.std.proofs.lemmas.Result.{on_ok_weaker}
use Rattle.ufs_file_commits.specs.State.{state_of}
use Rattle.ufs_file.specs.Hand.{FileState, HasNeeded}
use Rattle.ufs_model.specs.FileCalls.{file_refusal}
use Rattle.ufs_model.specs.declared.data.Desc.{Desc}
use Rattle.ufs_held.proofs.After.{first_fetched, held_fetched, lends}
use Rattle.ufs_held.proofs.Excusing.{same_told}
use Rattle.ufs_held.proofs.Stopping.{rests_still}
use Rattle.ufs_held.specs.Serving.{IsReadFor}
use Rattle.ufs_turns.specs.Told.{fault_told, told_list}
use Rattle.ufs_store.specs.Refusals.{fault_in}
use Rattle.ufs_held.proofs.serving.fetch_for.Goals as goal

abbrev desc_or : Desc → Option Desc → Desc
desc_or d None = d
desc_or d (Some q) = q

one_desc : (o : Option Desc) (d q : Desc) → o ≡ Some d → o ≡ Some q → d ≡ q
one_desc o d q is also = ap (desc_or d) (sym is ∙ also)

if_err : {T E : Type 0} {P : Type 0} (r : Result T E) → P → OnErr r P
if_err (Ok x) p = tt
if_err (Err e) p = p

pub fetch-requires : goal.fetch-requires
fetch-requires g c =
    let held = c.requires.held in
    let x = state_of c.args.file.now c.args.commits.now in
    record { lent = (x.file.file, held.cell, lends g.N.Naming.start.is_visible c.args.right.now c.args.right.now x x held, held.value) }

-- ---- where nothing is wanting

pub returns-then-is_ready-clause-there : goal.returns-then-is_ready-clause-there
returns-then-is_ready-clause-there g c d is allowed =
    let same = one_desc c.args.ask.now.desc c.in-Some.desc d c.in-Some.is is in
    subst (λ (q : Desc). HasNeeded c.args.file.now.content q c.args.ask.now.op) same
    (c.is_ready.ensures.needed c.if-is_ready.true (subst (λ (q : Desc). file_refusal c.args.file.now.content.bytes q c.args.ask.now.op ≡ None) (sym same) allowed))

-- ---- where blocks are read

pub returns-clause-held : goal.returns-clause-held
returns-clause-held g c =
    let held = c.requires.held in
    let x = state_of c.args.file.now c.args.commits.now in
    let y = state_of c.fetch.new.file c.args.commits.now in
    let own = c.args.right.now in
    let visible = g.N.Naming.start.is_visible in
    held_fetched visible own c.fetch.new.hand x y held (ap (λ (q : FileState). q.file) c.fetch.ensures.read) c.fetch.ensures.beside (c.fetch.ensures.lent x.file.file held.cell (lends visible own own x x held))

pub returns-clause-cell : goal.returns-clause-cell
returns-clause-cell g c =
    let held = c.requires.held in
    let x = state_of c.args.file.now c.args.commits.now in
    let y = state_of c.fetch.new.file c.args.commits.now in
    let own = c.args.right.now in
    let visible = g.N.Naming.start.is_visible in
    first_fetched visible own c.fetch.new.hand x y held (ap (λ (q : FileState). q.file) c.fetch.ensures.read) c.fetch.ensures.beside (c.fetch.ensures.lent x.file.file held.cell (lends visible own own x x held))

pub returns-clause-number : goal.returns-clause-number
returns-clause-number g c = ap (λ (q : FileState). q.file) c.fetch.ensures.read

pub returns-clause-there : goal.returns-clause-there
returns-clause-there g c =
    on_ok_weaker c.fetch.result
    (λ there d is allowed. subst (λ (q : Desc). HasNeeded c.fetch.new.file.content q c.args.ask.now.op) (one_desc c.args.ask.now.desc c.in-Some.desc d c.in-Some.is is) there)
    c.fetch.ensures.there

pub returns-clause-allowed : goal.returns-clause-allowed
returns-clause-allowed g c =
    if_err c.fetch.result
    (λ d is. subst (λ (q : Desc). file_refusal c.args.file.now.content.bytes q c.args.ask.now.op ≡ None) (one_desc c.args.ask.now.desc c.in-Some.desc d c.in-Some.is is) (c.is_ready.ensures.allowed c.if-is_ready.false))

pub returns-clause-lacks : goal.returns-clause-lacks
returns-clause-lacks g c =
    if_err c.fetch.result
    (λ d is. subst (λ (q : Desc). HasNeeded c.args.file.now.content q c.args.ask.now.op → ⊥) (one_desc c.args.ask.now.desc c.in-Some.desc d c.in-Some.is is) (c.is_ready.ensures.lacks c.if-is_ready.false))

none_some : {A : Type 0} (o : Option A) (x : A) → o ≡ None → o ≡ Some x → ⊥
none_some o x a b = (let both : None ≡ Some x = sym a ∙ b in cc)

pub returns-clause-read : goal.returns-clause-read
returns-clause-read g c d is =
    let same = one_desc c.args.ask.now.desc c.in-Some.desc d c.in-Some.is is in
    subst (λ (q : Desc). IsReadFor c.args.file.now c.fetch.new.file q c.args.ask.now.op) same (record {
      rest = c.fetch.ensures.read;
      still = c.fetch.ensures.still;
      nothing = λ has. absurd (c.is_ready.ensures.lacks c.if-is_ready.false has);
      refused = λ e refused. absurd (none_some (file_refusal c.args.file.now.content.bytes c.in-Some.desc c.args.ask.now.op) e (c.is_ready.ensures.allowed c.if-is_ready.false) refused);
    })

pub returns-clause-faults : goal.returns-clause-faults
returns-clause-faults g c = c.fetch.ensures.faults ∙ ap (λ (faults : List ℕ). told_list (fault_told (fault_in c.fetch.result)) ++ faults) c.requires.calm ∙ append-nil (told_list (fault_told (fault_in c.fetch.result)))

pub returns-then-is_ready-clause-read : goal.returns-then-is_ready-clause-read
returns-then-is_ready-clause-read g c d is = record { rest = refl; still = refl; nothing = λ has. refl; refused = λ e refused. refl }

pub returns-then-is_ready-clause-free : goal.returns-then-is_ready-clause-free
returns-then-is_ready-clause-free g c = same_told (g.T.Turns.tells c.args.door.now)

pub returns-then-is_ready-clause-rests : goal.returns-then-is_ready-clause-rests
returns-then-is_ready-clause-rests g c = rests_still (g.T.Turns.tells c.args.door.now)

pub returns-clause-rests : goal.returns-clause-rests
returns-clause-rests g c = (c.fetch.ensures.rests, c.fetch.ensures.ran)
