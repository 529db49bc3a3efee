use Rattle.std.proofs.Common.{ap, sym, ◌∙◌}
use Rattle.ufs_names.specs.NamesPart.{NamesPart}
use Rattle.ufs_names.proofs.RenameRefusals.{refused_from, refused_missing, refused_to, refused_replaced}
use Rattle.ufs_names.proofs.names.Names.rename_refusal.Goals as goal

pub returns-in-Err-clause-refused : goal.returns-in-Err-clause-refused
returns-in-Err-clause-refused c t old new part text text' e e' =
    refused_from c.args.self.now t part c.self.inside.tree (ap (λ (n : NamesPart). n.tree) c.self.view_is) c.args.from.now c.args.to.now old new text text' e e'
    c.is_root.result c.is_root-else-is_root.result c.is_root.ensures c.is_root-else-is_root.ensures c.if-is_root.false c.if-is_root-2.false c.in-Err.e c.in-Err.ensures.refused

pub returns-in_default-clause-refused : goal.returns-in_default-clause-refused
returns-in_default-clause-refused c t old new part text text' e e' =
    refused_missing c.args.self.now t part c.self.inside.tree (ap (λ (n : NamesPart). n.tree) c.self.view_is) c.args.from.now c.args.to.now old new text text' e e'
    c.is_root.result c.is_root-else-is_root.result c.is_root.ensures c.is_root-else-is_root.ensures c.if-is_root.false c.if-is_root-2.false c.in-Ok.ensures.passed c.in-Ok.look.found c.in-Ok.ensures.found c.in_default.is

pub returns-in-Err-look-clause-refused : goal.returns-in-Err-look-clause-refused
returns-in-Err-look-clause-refused c t old new part text text' e e' =
    refused_to c.args.self.now t part c.self.inside.tree (ap (λ (n : NamesPart). n.tree) c.self.view_is) c.args.from.now c.args.to.now old new text text' e e'
    c.is_root.result c.is_root-else-is_root.result c.is_root.ensures c.is_root-else-is_root.ensures c.if-is_root.false c.if-is_root-2.false c.in-Ok.ensures.passed c.in-Ok.look.found c.in-Ok.ensures.found
    c.in-Some.moved c.in-Some.is c.in-Err-look.e c.in-Err-look.ensures.refused

pub returns-in-Some-replace_refusal-clause-refused : goal.returns-in-Some-replace_refusal-clause-refused
returns-in-Some-replace_refusal-clause-refused c t old new part text text' e e' =
    refused_replaced c.args.self.now t part c.self.inside.tree (ap (λ (n : NamesPart). n.tree) c.self.view_is) c.args.from.now c.args.to.now old new text text' e e'
    c.is_root.result c.is_root-else-is_root.result c.is_root.ensures c.is_root-else-is_root.ensures c.if-is_root.false c.if-is_root-2.false c.in-Ok.ensures.passed c.in-Ok.look.found c.in-Ok.ensures.found
    c.in-Some.moved c.in-Some.is c.in-Ok-look.ensures.passed
    ∙ sym (c.replace_refusal.ensures t old new part text text' e e') ∙ c.in-Some-replace_refusal.is

pub returns-in-None-clause-passed : goal.returns-in-None-clause-passed
returns-in-None-clause-passed c t old new part text text' e e' =
    refused_replaced c.args.self.now t part c.self.inside.tree (ap (λ (n : NamesPart). n.tree) c.self.view_is) c.args.from.now c.args.to.now old new text text' e e'
    c.is_root.result c.is_root-else-is_root.result c.is_root.ensures c.is_root-else-is_root.ensures c.if-is_root.false c.if-is_root-2.false c.in-Ok.ensures.passed c.in-Ok.look.found c.in-Ok.ensures.found
    c.in-Some.moved c.in-Some.is c.in-Ok-look.ensures.passed
    ∙ sym (c.replace_refusal.ensures t old new part text text' e e') ∙ c.in-None.is
