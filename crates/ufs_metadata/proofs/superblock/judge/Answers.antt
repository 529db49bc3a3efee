use Rattle.std.proofs.Common.{◌≡◌, Option, Some, None, IfOk, IfErr, take, ap, sym, ◌∙◌, subst, eq-eqb}
use Rattle.std.specs.Str.{bytes_eq}
use Rattle.std.proofs.lemmas.Bool.{ne_eqb}
use Rattle.ufs_layout.specs.Superblock.{magic, super_of, super_fields, geometry_of}
use Rattle.ufs_layout.specs.declared.superblock.Super.{Super}
use Rattle.ufs_layout.proofs.Spelled.{some_if-some}
use Rattle.ufs_image.specs.Volume.{Refusal, BadVersion, superblock_refusal}
use Rattle.ufs_metadata.specs.Superblocks.{size_refusal}
use Rattle.ufs_metadata.specs.Faults.{IsRefusal}
use Rattle.ufs_metadata.specs.declared.superblock.ImageSuperblock.{ImageSuperblock}
use Rattle.ufs_metadata.proofs.Superblocks.{none_false, no_magic, other_version, off, on_form, fields_are}
use Rattle.ufs_metadata.proofs.superblock.judge.Goals as goal

pub returns-in_default-clause-refused : goal.returns-in_default-clause-refused
returns-in_default-clause-refused c =
    no_magic c.args.sectors c.requires.some (λ k. c.args.bytes.now)
    (none_false (bytes_eq magic (take 8 c.args.bytes.now)) (super_fields c.args.bytes.now).version (sym c.super_version.ensures ∙ c.in_default.is))

pub returns-then-version-ne1-clause-refused : goal.returns-then-version-ne1-clause-refused
returns-then-version-ne1-clause-refused c =
    let both = some_if-some (bytes_eq magic (take 8 c.args.bytes.now)) (super_fields c.args.bytes.now).version c.in-Some.version (sym c.super_version.ensures ∙ c.in-Some.is) in
    other_version c.args.sectors c.requires.some (λ k. c.args.bytes.now) both.0 (ne_eqb (super_fields c.args.bytes.now).version 1 (λ is. c.if-version-ne1.true (sym both.1 ∙ is)))
    ∙ ap (λ v. Some (BadVersion v)) both.1

pub returns-in_default-get_super-clause-refused : goal.returns-in_default-get_super-clause-refused
returns-in_default-get_super-clause-refused c =
    let both = some_if-some (bytes_eq magic (take 8 c.args.bytes.now)) (super_fields c.args.bytes.now).version c.in-Some.version (sym c.super_version.ensures ∙ c.in-Some.is) in
    off c.args.sectors c.requires.some (λ k. c.args.bytes.now) both.0 (eq-eqb (super_fields c.args.bytes.now).version 1 (both.1 ∙ c.if-version-ne1.false)) (sym c.get_super.ensures.value ∙ c.in_default-get_super.is)

pub returns-clause-taken : goal.returns-clause-taken
returns-clause-taken c =
    let bytes = c.args.bytes.now in
    let both = some_if-some (bytes_eq magic (take 8 bytes)) (super_fields bytes).version c.in-Some.version (sym c.super_version.ensures ∙ c.in-Some.is) in
    let gets : super_of 1 bytes ≡ Some c.in-Some-get_super.superblock = sym c.get_super.ensures.value ∙ c.in-Some-get_super.is in
    let same : size_refusal c.args.sectors (geometry_of c.in-Some-get_super.superblock) ≡ superblock_refusal c.args.sectors (λ k. bytes) =
    ap (λ (s : Super). size_refusal c.args.sectors (geometry_of s)) (fields_are bytes c.in-Some-get_super.superblock gets)
    ∙ sym (on_form c.args.sectors c.requires.some (λ k. bytes) both.0 (eq-eqb (super_fields bytes).version 1 (both.1 ∙ c.if-version-ne1.false)) c.in-Some-get_super.superblock gets) in
    subst (λ (o : Option Refusal). IfOk c.with_geometry.result (λ (h : ImageSuperblock). o ≡ None)) same c.with_geometry.ensures.taken

pub returns-clause-refused : goal.returns-clause-refused
returns-clause-refused c =
    let bytes = c.args.bytes.now in
    let both = some_if-some (bytes_eq magic (take 8 bytes)) (super_fields bytes).version c.in-Some.version (sym c.super_version.ensures ∙ c.in-Some.is) in
    let gets : super_of 1 bytes ≡ Some c.in-Some-get_super.superblock = sym c.get_super.ensures.value ∙ c.in-Some-get_super.is in
    let same : size_refusal c.args.sectors (geometry_of c.in-Some-get_super.superblock) ≡ superblock_refusal c.args.sectors (λ k. bytes) =
    ap (λ (s : Super). size_refusal c.args.sectors (geometry_of s)) (fields_are bytes c.in-Some-get_super.superblock gets)
    ∙ sym (on_form c.args.sectors c.requires.some (λ k. bytes) both.0 (eq-eqb (super_fields bytes).version 1 (both.1 ∙ c.if-version-ne1.false)) c.in-Some-get_super.superblock gets) in
    subst (λ (o : Option Refusal). IfErr c.with_geometry.result (IsRefusal o)) same c.with_geometry.ensures.refused
