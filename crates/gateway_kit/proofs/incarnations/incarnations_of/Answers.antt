use Rattle.std.proofs.Common.{◌≡◌, ◌-◌, ℕ, zero, suc, List, [], ◌∷◌, filter, take, drop, sym, ap, ◌∙◌, arith}
use Rattle.std.proofs.lemmas.List.{get_or-take, length-take}
use Rattle.std.proofs.Math.Seq.{take-nil}
use Rattle.gateway_kit.specs.IncarnationState.{IncarnationState}
use Rattle.gateway_kit.specs.Incarnations.{all_points}
use Rattle.gateway_kit.specs.Walks.{is_of}
use Rattle.gateway_kit.proofs.ServiceRuns.{cut_back, cut_front}
use Rattle.gateway_kit.proofs.incarnations.incarnations_of.Goals as goal

-- a part as what is left of a front
part : {A : Type 0} (b e : ℕ) (xs : List A) → take (e - b) (drop b xs) ≡ drop b (take e xs)
part zero e xs = let same : e - 0 ≡ e = omega arith in ap (λ n. take n xs) same
part (suc b) e [] = take-nil (e - suc b) ∙ sym (ap (drop (suc b)) (take-nil e))
part (suc b) zero (x ∷ xs) = let none : 0 - suc b ≡ 0 = omega arith in ap (λ n. take n (drop b xs)) none
part (suc b) (suc e) (x ∷ xs) = let less : suc e - suc b ≡ e - b = omega arith in ap (λ n. take n (drop b xs)) less ∙ part b e xs

pub returns : goal.returns
returns c =
    let service = c.args.service.now in
    let ps = c.args.incarnations.now.items in
    let b = c.service_begin.result in
    let e = c.service_end.result in
    ap (λ (l : List IncarnationState). filter (λ x. is_of service x.0.writer) (all_points l)) (c.walk.ensures.value ∙ part b e ps)
    ∙ cut_front service (take e ps) b (λ k d h w.
    ap (λ (p : IncarnationState). is_of service p.writer) (get_or-take e ps k d (let long = length-take e ps in omega (arith, w, long)))
    ∙ c.service_begin.ensures k d h)
    ∙ cut_back service ps e c.service_end.ensures.behind
