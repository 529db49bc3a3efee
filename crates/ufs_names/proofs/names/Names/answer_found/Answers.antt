use Rattle.std.proofs.Common.{Result, Ok, Err, IfOk}
use Rattle.ufs_names.specs.PathCalls.{IsList}
use Rattle.ufs_names.proofs.PathAnswers.{stat_replied, list_replied, list_of_dir}
use Rattle.ufs_names.proofs.names.Names.answer_found.Goals as goal

pub list-requires : goal.list-requires
list-requires c = let a = c.requires in list_of_dir c.args.self.now c.args.files.now a.0 c.args.ask.now a.1.0 c.args.found a.1.1 c.in-List.path c.in-List.is

pub returns-in-Stat : goal.returns-in-Stat
returns-in-Stat c t names is = stat_replied c.args.self.now c.args.files.now t c.args.ask.now names c.args.found is c.in-Stat.path c.in-Stat.is c.stat.result c.stat.ensures

if_ok : {T E : Type 0} (P Q : T → Type 0) (r : Result T E) → ((x : T) → P x → Q x) → IfOk r P → IfOk r Q
if_ok P Q (Ok x) to p = to x p
if_ok P Q (Err e) to p = tt

pub returns-in-List : goal.returns-in-List
returns-in-List c =
    let a = c.requires in
    let dir = list_of_dir c.args.self.now c.args.files.now a.0 c.args.ask.now a.1.0 c.args.found a.1.1 c.in-List.path c.in-List.is in
    if_ok (IsList c.args.self.now c.args.found) _ c.list.result (λ r told t names is. list_replied c.args.self.now c.args.files.now t c.args.ask.now names c.args.found is dir.0 dir.1 c.in-List.path c.in-List.is r told) c.list.ensures
