-- What payloads tell of the values that were fed, each weighed, where archives are among the writers.
use Rattle.std.proofs.Common.{◌≡◌, ℕ, ℤ, Bool, true, false, cond, List, [], ◌∷◌, ◌++◌, map, filter, refl, sym, ap, subst, ◌∙◌}
use Rattle.std.specs.List.{flat_map}
use Rattle.std.proofs.lemmas.List.{map-append}
use Rattle.agg_kit.specs.Payloads.{payload_of}
use Rattle.archive_kit.specs.Adding.{add_payloads}
use Rattle.archive_kit.specs.Adopting.{Counted}
use Rattle.archive_kit.specs.Totals.{is_gauge}
use Rattle.archive_kit.proofs.Written.{written_added}
use Rattle.archive_world_kit.specs.Adopted.{Archives, AreRead, telling}
use Rattle.archive_world_kit.specs.Answers.{Feeds}
use Rattle.archive_world_kit.specs.Steps.{History, HasSoundRounds, rounding}
use Rattle.archive_world_kit.proofs.Adopted.{are_fed}
use Rattle.gateway_kit.specs.Keys.{ItemKey, whole_key}
use Rattle.point_kit.specs.declared.key.Key.{Key}
use Rattle.point_kit.specs.declared.payload.Payload.{Payload}
use Rattle.point_kit.specs.declared.payload.Payload.TheVariants.{Gauge}
use Rattle.point_kit.specs.declared.stream.Stream.{Stream}
use Rattle.rollup_kit.specs.Recordings.{values_under}
use Rattle.rollup_kit.specs.Rollups.{AddsUp}
use Rattle.schedule_kit.specs.Members.{In}
use Rattle.schedule_kit.specs.Rows.{IsAdded}
use Rattle.schedule_kit.specs.Totals.{IsSum, total, total_where}
use Rattle.schedule_kit.proofs.Members.{map-In}

module _ {U : Type 0} (z : U) (p : U → U → U) (laws : IsSum z p) (weigh : ℤ → U) (same : ItemKey → ItemKey → Bool) where
  -- the values under a name, each weighed
  pub weighed_under : (x : ItemKey) (vs : List (ItemKey × ℤ))
      → total z p weigh (values_under same x vs) ≡ total_where z p (λ (v : ItemKey × U). same x v.0) (λ v. v.1) (map (λ v. (v.0, weigh v.1)) vs)
  weighed_under x [] = refl
  weighed_under x (v ∷ vs) = at (same x v.0) ∙ ap (p (cond (same x v.0) (weigh v.1) z)) (weighed_under x vs)
    where
      at : (b : Bool) → total z p weigh (map (λ w. w.1) (cond b (v ∷ filter (λ w. same x w.0) vs) (filter (λ w. same x w.0) vs))) ≡ p (cond b (weigh v.1) z) (total z p weigh (values_under same x vs))
      at true = refl
      at false = sym (laws.zero_left (total z p weigh (values_under same x vs)))

-- Where payloads are read as sums of what values weigh, so are those of archives.
module _ {N : Type 0} {h : History N} (a : Archives h) (fed : ℕ → List N → List (ItemKey × ℤ)) (feed : Feeds a fed)
    {U : Type 0} (z : U) (p : U → U → U) (laws : IsSum z p) (reads : Payload → U) (both : (x y : Payload) → reads (add_payloads x y) ≡ p (reads x) (reads y))
    (gauges : (v : ℤ) → reads (Gauge v) ≡ z) (weigh : ℤ → U) (stream : Stream) (adds : AddsUp stream.shape)
    (one : (w : ℕ) (es : List N) (x : ItemKey) → a.is_archive (h.writing.who w) ≡ false → In x (h.writing.names w es) → stream ≡ x.0
    → (vs : List ℤ) → reads (payload_of stream.shape vs) ≡ total z p weigh vs)
    (wants : Key → Bool) (only : (k : Key) → wants k ≡ true → stream ≡ k.stream) where
  abbrev pub weighed : ℕ → List N → List (ItemKey × U)
  weighed w es = map (λ v. (v.0, weigh v.1)) (fed w es)

  weighed_flat : (cs : List (Counted N)) → map (λ (v : ItemKey × ℤ). (v.0, weigh v.1)) (flat_map (λ c. fed c.0.0 c.1) cs) ≡ flat_map (λ c. weighed c.0.0 c.1) cs
  weighed_flat [] = refl
  weighed_flat (c ∷ cs) = map-append (λ (v : ItemKey × ℤ). (v.0, weigh v.1)) (fed c.0.0 c.1) (flat_map (λ c. fed c.0.0 c.1) cs) ∙ ap (λ l. weighed c.0.0 c.1 ++ l) (weighed_flat cs)

  pub weighed_read : AreRead h.writing (telling a) z p reads weighed wants
  weighed_read = record {
    sum = laws;
    both = both;
    gauges = gauges;
    named = λ w es q e i.
        let v = map-In (λ (v : ItemKey × ℤ). (v.0, weigh v.1)) q (fed w es) i in
        subst (λ (x : ItemKey). In x (h.writing.names w es)) (sym (ap (λ (v : ItemKey × U). v.0) v.2)) (feed.named w es v.0 e v.1);
    plain = λ w es q e i.
        let v = map-In (λ (v : ItemKey × ℤ). (v.0, weigh v.1)) q (fed w es) i in
        ap (λ (v : ItemKey × U). is_gauge (h.writing.payload w es v.0)) v.2 ∙ feed.plain w es v.0 e v.1;
    added = λ w es i start x e asked there.
        let same = only _ asked in
        let vs = values_under (rounding h.writing).same_name x (fed w es) in
        ap reads (feed.payload w es x e (subst (λ (s : Stream). AddsUp s.shape) same adds) there ∙ ap (λ (s : Stream). payload_of s.shape vs) (sym same))
        ∙ one w es x e there same vs ∙ weighed_under z p laws weigh (rounding h.writing).same_name x (fed w es);
    feeds = λ b es e. ap (map (λ (v : ItemKey × ℤ). (v.0, weigh v.1))) (feed.feeds b es e) ∙ weighed_flat (a.adoptions b es);
  }

  pub weighed_added : HasSoundRounds h → IsAdded (rounding h.writing) z p reads weighed wants
  weighed_added sound =
      written_added (rounding h.writing) (record { key = λ i start x. refl; same = λ x y. refl; instances = a.are.instances })
      a.is_archive a.adoptions a.held a.are.driven sound z p reads weighed wants
      (are_fed h.writing sound (telling a) a.held a.are.driven.never a.are.were z p reads weighed wants weighed_read)

  -- and what an archive writes under such a name reads as the values of what it adopted
  pub archive_reads : HasSoundRounds h → (b : ℕ) (es : List N) (x : ItemKey) (start : ℕ) → wants (whole_key (h.writing.who b, start) x) ≡ true → In x (h.writing.names b es)
      → reads (h.writing.payload b es x) ≡ total z p weigh (values_under (rounding h.writing).same_name x (fed b es))
  archive_reads sound b es x start asked there =
      (weighed_added sound).added b es (h.writing.who b) start x asked there
      ∙ sym (weighed_under z p laws weigh (rounding h.writing).same_name x (fed b es))
