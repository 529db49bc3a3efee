use Rattle.std.proofs.Common.{◌<◌, length, sym, ◌∙◌, arith}
use Rattle.std.proofs.lemmas.Result.{on_ok_weaker}
use Rattle.ufs_disk.specs.Moments.{reads}
use Rattle.ufs_disk.proofs.Runs.{started, weaker}
use Rattle.ufs_recovery.proofs.Fits.{cut_left, none_there, one_cut, passes_fitted, passes_none, sized, some_there}
use Rattle.ufs_recovery.proofs.SuperblockPut.{still_opens}
use Rattle.ufs_recovery.proofs.fitting.fit_at.Goals as goal

pub returns-in_default-clause-one_more : goal.returns-in_default-clause-one_more
returns-in_default-clause-one_more g c visible superblock first below =
    let less : c.args.place < length c.args.forms.now = let under = c.requires.inside in let long = c.requires.counted in omega (arith, under, long) in
    passes_none (g.D.Disk.size c.args.disk.now) superblock c.args.geometry.now c.args.forms.now c.args.place c.requires.inside first (reads (g.D.Disk.moments c.args.disk.now)) below
    (none_there c.args.forms.now c.args.place c.index-forms-place.result less c.index-forms-place.is c.in_default.not-Some)

pub returns-in_default-clause-tree : goal.returns-in_default-clause-tree
returns-in_default-clause-tree g c visible settled superblock first below = started _ _ _ (still_opens (g.D.Disk.size c.args.disk.now) (g.D.Disk.moments c.args.disk.now).state settled)

pub returns-then-not-has_extra-clause-one_more : goal.returns-then-not-has_extra-clause-one_more
returns-then-not-has_extra-clause-one_more g c visible superblock first below =
    let less : c.args.place < length c.args.forms.now = let under = c.requires.inside in let long = c.requires.counted in omega (arith, under, long) in
    passes_fitted (g.D.Disk.size c.args.disk.now) superblock c.args.geometry.now c.args.forms.now c.args.place c.requires.inside first (reads (g.D.Disk.moments c.args.disk.now)) below
    c.in-Some.form (some_there c.args.forms.now c.args.place c.index-forms-place.result c.in-Some.form less c.index-forms-place.is c.in-Some.is)
    (sym c.has_extra.ensures ∙ c.if-not-has_extra.true)

pub returns-then-not-has_extra-clause-tree : goal.returns-then-not-has_extra-clause-tree
returns-then-not-has_extra-clause-tree g c visible settled superblock first below = started _ _ _ (still_opens (g.D.Disk.size c.args.disk.now) (g.D.Disk.moments c.args.disk.now).state settled)

pub returns-clause-settled : goal.returns-clause-settled
returns-clause-settled g c visible settled = c.put_fitted.ensures.settled visible

pub returns-clause-one_more : goal.returns-clause-one_more
returns-clause-one_more g c visible = on_ok_weaker c.put_fitted.result (λ put superblock first below.
    let less : c.args.place < length c.args.forms.now = let under = c.requires.inside in let long = c.requires.counted in omega (arith, under, long) in
    one_cut (g.D.Disk.size c.args.disk.now) superblock c.args.geometry.now c.args.forms.now c.args.place c.requires.inside first (reads (g.D.Disk.moments c.args.disk.now)) below
    (sized (g.D.Disk.size c.args.disk.now) (g.D.Disk.moments c.args.disk.now).state (g.met.D.Disk.whole visible c.args.disk.now))
    c.in-Some.form (some_there c.args.forms.now c.args.place c.index-forms-place.result c.in-Some.form less c.index-forms-place.is c.in-Some.is)
    (sym c.has_extra.ensures ∙ c.if-not-has_extra.false) (reads (g.D.Disk.moments c.put_fitted.new.disk)) put) (c.put_fitted.ensures.put visible)

pub returns-clause-tree : goal.returns-clause-tree
returns-clause-tree g c visible settled superblock first below =
    let less : c.args.place < length c.args.forms.now = let under = c.requires.inside in let long = c.requires.counted in omega (arith, under, long) in
    weaker _ _ _ (cut_left (g.D.Disk.size c.args.disk.now) superblock c.args.geometry.now c.args.forms.now c.args.place c.requires.inside first (g.D.Disk.moments c.args.disk.now).state (g.met.D.Disk.whole visible c.args.disk.now) settled below
    c.in-Some.form (some_there c.args.forms.now c.args.place c.index-forms-place.result c.in-Some.form less c.index-forms-place.is c.in-Some.is)
    (sym c.has_extra.ensures ∙ c.if-not-has_extra.false)) _ _ (c.put_fitted.ensures.crash visible)
