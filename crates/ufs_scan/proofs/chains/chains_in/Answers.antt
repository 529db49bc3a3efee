use Rattle.std.proofs.Common.{◌≡◌, true, map, subst, sym}
use Rattle.ufs_layout.specs.Areas.{is_inode_number}
use Rattle.ufs_found.specs.Sorted.{place_of}
use Rattle.ufs_scan.specs.Edits.{StepValue, edits_of}
use Rattle.ufs_scan.specs.Chains.{AreChains}
use Rattle.ufs_scan.proofs.ChainsFit.{few_inodes, of_edits, all_fit, by_txn, up_of}
use Rattle.ufs_scan.proofs.chains.chains_in.Goals as goal

pub returns-clause-chains : goal.returns-clause-chains
returns-clause-chains c =
    of_edits (edits_of c.args.geometry.now (map (λ b. b.now) c.args.parts.now)) c.in_ok-steps.steps.items c.in_ok-chains.chains.items
    (subst (λ l. AreChains (map (λ (s : StepValue). s.edit) l) c.in_ok-chains.chains.items) c.deref.ensures.value c.in_ok-chains.ensures.chains) c.in_ok-steps.ensures.same

pub returns-clause-fit : goal.returns-clause-fit
returns-clause-fit c =
    all_fit c.args.geometry.now c.requires.geometry (map (λ b. b.now) c.args.parts.now) (up_of (λ b. b.now) place_of c.args.parts.now c.requires.order) c.in_ok-chains.chains.items
    (of_edits (edits_of c.args.geometry.now (map (λ b. b.now) c.args.parts.now)) c.in_ok-steps.steps.items c.in_ok-chains.chains.items
    (subst (λ l. AreChains (map (λ (s : StepValue). s.edit) l) c.in_ok-chains.chains.items) c.deref.ensures.value c.in_ok-chains.ensures.chains) c.in_ok-steps.ensures.same)
    (c.in_ok-chains.ensures.inodes (is_inode_number c.args.geometry.now) (subst (λ l. Rattle.std.specs.List.All (λ (s : StepValue). is_inode_number c.args.geometry.now s.edit.inode ≡ true) l) (sym c.deref.ensures.value) c.in_ok-steps.ensures.inodes))

pub returns-clause-order : goal.returns-clause-order
returns-clause-order c =
    by_txn c.args.geometry.now.inodes (map (λ (s : StepValue). s.edit) c.deref.result.now) c.in_ok-chains.chains.items (few_inodes c.args.geometry.now c.requires.geometry) c.in_ok-chains.ensures.chains
    (all_fit c.args.geometry.now c.requires.geometry (map (λ b. b.now) c.args.parts.now) (up_of (λ b. b.now) place_of c.args.parts.now c.requires.order) c.in_ok-chains.chains.items
    (of_edits (edits_of c.args.geometry.now (map (λ b. b.now) c.args.parts.now)) c.in_ok-steps.steps.items c.in_ok-chains.chains.items
    (subst (λ l. AreChains (map (λ (s : StepValue). s.edit) l) c.in_ok-chains.chains.items) c.deref.ensures.value c.in_ok-chains.ensures.chains) c.in_ok-steps.ensures.same)
    (c.in_ok-chains.ensures.inodes (is_inode_number c.args.geometry.now) (subst (λ l. Rattle.std.specs.List.All (λ (s : StepValue). is_inode_number c.args.geometry.now s.edit.inode ≡ true) l) (sym c.deref.ensures.value) c.in_ok-steps.ensures.inodes)))
