use Rattle.std.proofs.Common.{rules, ◌≡◌, ◌∙◌, Some, w32, to_z, of_z}
use Rattle.kit_c.proofs.Adopting.{adopts, no_fault, one_fault}
use Rattle.kit_c.specs.Codes.{code_of}
use Rattle.kit_c.specs.Held.{archive_of, node_of}
use Rattle.kit_c.proofs.archives.kit_archive_adopt.Goals as goal

pub returns-in-Ok-2-clause-code : goal.returns-in-Ok-2-clause-code
returns-in-Ok-2-clause-code c =
    let archive : archive_of c.args.archive.now ≡ Some c.in-Archive.held = search rules in
    let gateway : node_of c.args.gateway.now ≡ Some c.in-Gateway.read = search rules in
    λ other. no_fault c.args.start c.args.service.now c.in-Ok.ensures.ok c.in-Ok.ensures.value archive gateway c.in-Ok-2.ensures.ok

pub returns-in-Ok-2-clause-value : goal.returns-in-Ok-2-clause-value
returns-in-Ok-2-clause-value c =
    let archive : archive_of c.args.archive.now ≡ Some c.in-Archive.held = search rules in
    let gateway : node_of c.args.gateway.now ≡ Some c.in-Gateway.read = search rules in
    λ done. search rules ∙ adopts c.args.start c.in-Ok.ensures.value archive gateway c.in-Ok-2.ensures.value

pub returns-clause-code : goal.returns-clause-code
returns-clause-code c =
    let archive : archive_of c.args.archive.now ≡ Some c.in-Archive.held = search rules in
    let gateway : node_of c.args.gateway.now ≡ Some c.in-Gateway.read = search rules in
    let told : to_z w32 (of_z w32 c.code-in-Err-2.result) ≡ code_of c.in-Err-2.fault = search rules in
    λ other. told ∙ one_fault c.args.start c.args.service.now c.in-Ok.ensures.ok c.in-Ok.ensures.value archive gateway (c.in-Err-2.ensures.err (λ same. other (told ∙ same)))
