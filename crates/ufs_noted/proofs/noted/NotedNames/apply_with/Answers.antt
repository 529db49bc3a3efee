use Rattle.std.proofs.Common.{◌≡◌, ℕ, Option, Some, None, true, false, is_some, ap, refl, sym, subst, ◌∙◌}
use Rattle.std.specs.Prelude.{IfSome, IsSome}
use Rattle.std.specs.FinMap as map
use Rattle.ufs_bitmap.specs.Blocks.{BlockSet}
use Rattle.ufs_file_commits.specs.State.{CommitState}
use Rattle.ufs_file.specs.Hand.{FileState}
use Rattle.ufs_files.specs.Files.{AreNumbered, Files}
use Rattle.ufs_model.proofs.Facts.Lookups.{same_some}
use Rattle.ufs_names.specs.Calls.{IsAsked, no_bytes}
use Rattle.ufs_names.specs.Space.{AreApart}
use Rattle.ufs_noted.specs.Known.{IsSettledWith, commits_in, file_in}
use Rattle.ufs_noted.specs.Noted.{HasApplied, HasServedWith, Noted, one_file, one_known}
use Rattle.ufs_noted.specs.declared.known.KnownFile.{KnownFile}
use Rattle.ufs_noted.proofs.Causes.{caused_by_memory}
use Rattle.ufs_noted.proofs.Left.{touched_alone}
use Rattle.ufs_noted.proofs.Maps.{exchanged, file_here, none_some}
use Rattle.ufs_noted.proofs.Serving.{served_with}
use Rattle.ufs_noted.proofs.noted.NotedNames.apply_with.Goals as goal

pub returns-in-Err-clause-cause : goal.returns-in-Err-clause-cause
returns-in-Err-clause-cause c x is = (
  c.args.pool.now,
  record { within = λ b here. here; none = λ need had lacks bare. bare },
  caused_by_memory c.args.self.now.names.tree.dirs c.args.pool.now c.args.ask.op c.out_of_memory.result.entry.reply x c.out_of_memory.ensures.reply is,
)

pub exchange-empty-requires-clause-number : goal.exchange-empty-requires-clause-number
exchange-empty-requires-clause-number c = sym c.file-number.ensures

pub exchange-empty-requires-clause-here : goal.exchange-empty-requires-clause-here
exchange-empty-requires-clause-here c =
    let k = c.args.file.hand.file in
    ap (λ (q : Files × ℕ). is_some (map.get q.0 q.1)) (λ i. (c.in-Ok.ensures.files i, c.file-number.ensures i)) ∙ ap is_some (file_here k (Some (no_bytes k 0)))

pub apply_lent-applied-requires-clause-asked : goal.apply_lent-applied-requires-clause-asked
apply_lent-applied-requires-clause-asked c =
    let a = c.requires.asked in
    let k = c.args.file.hand.file in
    let files = c.exchange-empty.ensures.new ∙ (λ i. map.insert (c.in-Ok.ensures.files i) (c.file-number.ensures i) c.args.file.hand) ∙ exchanged k (no_bytes k 0) c.args.file.hand in
    (a.0, subst (λ (fs : Files). IsAsked a.0 c.args.self.now.names c.args.ask fs) (sym files) a.1)

pub apply_lent-applied-requires-clause-apart : goal.apply_lent-applied-requires-clause-apart
apply_lent-applied-requires-clause-apart c lent within =
    let k = c.args.file.hand.file in
    let files = c.exchange-empty.ensures.new ∙ (λ i. map.insert (c.in-Ok.ensures.files i) (c.file-number.ensures i) c.args.file.hand) ∙ exchanged k (no_bytes k 0) c.args.file.hand in
    subst (λ (fs : Files). AreApart c.args.self.now.names.tree.dirs fs lent) (sym files) (c.requires.apart lent within)

pub take_out-taken-requires : goal.take_out-taken-requires
take_out-taken-requires c =
    let k = c.args.file.hand.file in
    let was : Some c.exchange-empty.result ≡ Some (no_bytes k 0) =
    sym c.exchange-empty.ensures.was ∙ (λ i. map.get (c.in-Ok.ensures.files i) (c.file-number.ensures i)) ∙ file_here k (Some (no_bytes k 0)) in
    record { number = ap (λ (s : FileState). s.file) (same_some c.exchange-empty.result (no_bytes k 0) was) ∙ sym c.file-number.ensures }

pub settle-file-requires-clause-before : goal.settle-file-requires-clause-before
settle-file-requires-clause-before c served = c.in-Ok.ensures.before ∙ sym c.requires.noted.runs

pub settle-file-requires-clause-there : goal.settle-file-requires-clause-there
settle-file-requires-clause-there c excused =
    let k = c.args.file.hand.file in
    let files = c.exchange-empty.ensures.new ∙ (λ i. map.insert (c.in-Ok.ensures.files i) (c.file-number.ensures i) c.args.file.hand) ∙ exchanged k (no_bytes k 0) c.args.file.hand in
    let same = c.apply_lent-applied.ensures.files (sym c.tells_excuse-excused.ensures ∙ excused) ∙ files in
    ap is_some (c.take_out-taken.ensures.value ∙ (λ i. map.get (same i) (c.file-number.ensures i)) ∙ file_here k (Some c.args.file.hand))

pub returns-clause-served : goal.returns-clause-served
returns-clause-served c e =
    let a = c.requires.asked in
    let x = c.args.self.now in
    let k = c.args.file.hand.file in
    let hand = c.args.file.hand in
    let commits = c.args.file.commits in
    let mid = c.apply_lent-applied.new.self in
    let left = c.apply_lent-applied.new.files in
    let left_pool = c.apply_lent-applied.new.pool in
    let reply = c.apply_lent-applied.result.entry.reply in
    let desc = c.apply_lent-applied.result.desc in
    let kept = c.settle-file.result in
    let y : Noted = record { names = c.self-2.inside.names; fresh = c.self-2.inside.fresh.items; dropped = c.settle-file.new.dropped } in
    let files = c.exchange-empty.ensures.new ∙ (λ i. map.insert (c.in-Ok.ensures.files i) (c.file-number.ensures i) hand) ∙ exchanged k (no_bytes k 0) hand in
    let applied : HasApplied c.args.ask x mid (one_file k (Some hand)) left c.args.pool.now left_pool reply desc =
    subst (λ (fs : Files). HasApplied c.args.ask x mid fs left c.args.pool.now left_pool reply desc) files (c.apply_lent-applied.ensures.served e) in
    let taken : file_in kept ≡ map.get left k = c.settle-file.ensures.file ∙ c.take_out-taken.ensures.value ∙ ap (map.get left) c.file-number.ensures in
    let alone = touched_alone x.names mid.names c.args.ask k hand left reply desc a.0 a.1 (applied.served a.0 a.1) c.requires.one (c.requires.touched a.0 a.1) ∙ ap (one_file k) (sym taken) in
    let served : HasApplied c.args.ask x mid (one_file k (Some hand)) (one_file k (file_in kept)) c.args.pool.now left_pool reply desc =
    subst (λ (fs : Files). HasApplied c.args.ask x mid (one_file k (Some hand)) fs c.args.pool.now left_pool reply desc) alone applied in
    let same : y ≡ record mid { dropped = y.dropped } = (λ i. record (c.self-2.view_is i) { dropped = y.dropped }) in
    let settled : IsSettledWith commits mid.dropped y.dropped kept =
    subst (λ (d : BlockSet). IsSettledWith commits d y.dropped kept) (ap (λ (n : Noted). n.dropped) c.self-2.view_is) (c.settle-file.ensures.settled (c.tells_excuse-excused.ensures ∙ e)) in
    served_with c.args.ask x mid y k hand commits kept c.args.pool.now left_pool reply desc served same settled

pub returns-clause-fits : goal.returns-clause-fits
returns-clause-fits c x is t asked =
    let k = c.args.file.hand.file in
    let files = c.exchange-empty.ensures.new ∙ (λ i. map.insert (c.in-Ok.ensures.files i) (c.file-number.ensures i) c.args.file.hand) ∙ exchanged k (no_bytes k 0) c.args.file.hand in
    c.apply_lent-applied.ensures.fits x is t (subst (λ (fs : Files). IsAsked t c.args.self.now.names c.args.ask fs) (sym files) asked)

pub returns-clause-unchanged : goal.returns-clause-unchanged
returns-clause-unchanged c excused =
    (λ i. record { names = c.self-2.inside.names; fresh = c.self-2.inside.fresh.items; dropped = c.settle-file.ensures.same (c.tells_excuse-excused.ensures ∙ excused) i })
    ∙ c.self-2.view_is
    ∙ c.apply_lent-applied.ensures.unchanged excused

is_known : (o : Option KnownFile) (hand : FileState) (commits : CommitState) → file_in o ≡ Some hand → IfSome o (λ k. k.commits ≡ commits) → o ≡ Some (record { hand = hand; commits = commits })
is_known None hand commits is same = absurd (none_some None hand refl is)
is_known (Some k) hand commits is same = (λ i. Some (record { hand = same_some k.hand hand is i; commits = same i }))

pub returns-clause-kept : goal.returns-clause-kept
returns-clause-kept c excused =
    let k = c.args.file.hand.file in
    let files = c.exchange-empty.ensures.new ∙ (λ i. map.insert (c.in-Ok.ensures.files i) (c.file-number.ensures i) c.args.file.hand) ∙ exchanged k (no_bytes k 0) c.args.file.hand in
    let same = c.apply_lent-applied.ensures.files excused ∙ files in
    is_known c.settle-file.result c.args.file.hand c.args.file.commits
    (c.settle-file.ensures.file ∙ c.take_out-taken.ensures.value ∙ (λ i. map.get (same i) (c.file-number.ensures i)) ∙ file_here k (Some c.args.file.hand))
    (c.settle-file.ensures.kept (c.tells_excuse-excused.ensures ∙ excused))

numbered : (k : ℕ) (left : Files) → AreNumbered left → (o : Option KnownFile) → file_in o ≡ map.get left k → IfSome o (λ kept. kept.hand.file ≡ k)
numbered k left numbers None is = tt
numbered k left numbers (Some kept) is = numbers k kept.hand (sym is)

pub returns-clause-number : goal.returns-clause-number
returns-clause-number c =
    numbered c.args.file.hand.file c.apply_lent-applied.new.files c.are_numbered.ensures c.settle-file.result
    (c.settle-file.ensures.file ∙ c.take_out-taken.ensures.value ∙ ap (map.get c.apply_lent-applied.new.files) c.file-number.ensures)
