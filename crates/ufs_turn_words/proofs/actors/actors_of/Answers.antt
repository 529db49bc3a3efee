use Rattle.std.proofs.Common.{◌≡◌, ◌+◌, ◌++◌, ◌∷◌, [], ℕ, suc, length, map, take, ap, sym, ◌∙◌, arith}
use Rattle.std.proofs.lemmas.Option.{slice_get_read}
use Rattle.ufs_script.specs.declared.lists.ScheduleWord.{ScheduleWord}
use Rattle.ufs_turn_words.specs.Actors.{IsTurnAlone, actor_in}
use Rattle.ufs_turn_words.proofs.Lists.{each_there, length_push, map_more, map_whole}
use Rattle.ufs_turn_words.proofs.actors.actors_of.Goals as goal

pub actor_of-requires : goal.actor_of-requires
actor_of-requires c =
    let l = c.loop-word in
    let word : ScheduleWord = c.word-item.result in
    each_there IsTurnAlone c.args.words.now l.word-index word c.requires (slice_get_read c.args.words.now (length c.args.words.now) l.word-index word (omega arith) (omega arith) c.word-item.is)

pub loop-word-preserved : goal.loop-word-preserved
loop-word-preserved c =
    let l = c.loop-word in
    let word : ScheduleWord = c.word-item.result in
    let items = c.push_reserved.ensures.items in
    let long = ap length items ∙ length_push l.actors.items c.actor_of.result in
    let all = l.invariant.all in
    let fits = l.invariant.room in
    let wide = c.push_reserved.ensures.capacity in
    let next : suc l.word-index ≡ l.word-index + 1 = omega arith in
    let at = slice_get_read c.args.words.now (length c.args.words.now) l.word-index word (omega arith) (omega arith) c.word-item.is in
    record {
      are = items ∙ (λ i. l.invariant.are i ++ c.actor_of.ensures i ∷ []) ∙ sym (map_more actor_in c.args.words.now l.word-index word at) ∙ ap (λ (n : ℕ). map actor_in (take n c.args.words.now)) next;
      all = omega (arith, long, all);
      room = omega (arith, fits, wide);
    }

pub returns : goal.returns
returns c = let l = c.loop-word in l.invariant.are ∙ map_whole actor_in c.args.words.now l.word-index (let past = c.loop-word-test.false in omega (arith, past))
