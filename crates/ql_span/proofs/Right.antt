-- What the walks find is the span.
use Rattle.std.proofs.Common.{◌≡◌, ℕ, suc, ◌+◌, ◌<◌, ◌≤◌, Bool, true, false, List, [], ◌∷◌, Option, Some, None, refl, sym, ap, ◌∙◌, subst, ⊎_elim, inl, inr, arith}
use Rattle.std.proofs.lemmas.List.Sums.{sum_by-cons}
use Rattle.std.specs.Prelude.{if◌then◌else◌, option_map, is_none}
use Rattle.std.specs.List.{sum_by}
use Rattle.ql_world.specs.declared.event.Event.{Event}
use Rattle.ql_world.specs.declared.event.Event.TheVariants.{Turn as turn, Spawn as spawn, Throw as throw, Kill as kill, Send as send, Take as take, Reply as reply, EndOk as end_ok}
use Rattle.ql_world.specs.Event.{Journal}
use Rattle.ql_span.specs.Chain.{first_line, line_at, NotAfter, ticks_of, IsOf, IsTurn, IsEventOf, Reason, same, spawns, sends, takes, kills, ends, replies, throws, After, IsChain, weight, Span, IsSpan, IsSpanOf}
use Rattle.ql_span.specs.Walk.{Key, process, call, catch, Mark, turned, event, learned, mark, marks, Kept, back, walk, kept, span_of}
use Rattle.ql_span.proofs.Basics.{line_within}
use Rattle.ql_span.proofs.Best.{weight_by}
use Rattle.ql_span.proofs.Back.{counted, IsMark, Under, AimedAt, Has, Aims, Then, Chained, Holds, walked, top_ahead, top_chained}
use Rattle.ql_span.proofs.Along.{aim_of, mapped, counted_same, known, ms, knows, told, to_mark, counts_same, from_turned, to_turns, from_turns, to_under, from_under, has_process, has_call, is_of, takes_call}

module _ (first : ℕ) (es : List Event) where
  abbrev M : List Mark
  M = ms first es

  -- each reason is a key at which the earlier turn aims and which the later one has
  keyed : (i j : ℕ) → IsTurn first es i → IsTurn first es j → Reason first es i j → (key : Key) × (Aims first M i key × Has first M j key)
  keyed i j t u (same p x y) = (process p, (inl (p, (x.0, (to_mark first es i (turn p x.0) x.1, refl))), has_process first es j p y))
  keyed i j t u (spawns at p q home mode x y) = (process q, (inr (at, (None, to_under first es i at _ x)), has_process first es j q y))
  keyed i j t u (sends at p k n by q x y) = (call k n, (inr (at, (None, to_under first es i at _ x)), has_call first es j by q k n u y))
  keyed i j t u (takes at q k n x y) = (process q, (inr (at, (Some (call k n), to_under first es i at _ x)), has_process first es j q y))
  keyed i j t u (kills at c q x y) = (process q, (inr (at, (None, to_under first es i at _ x)), has_process first es j q y))
  keyed i j t u (ends at q text p x l y) = (
    process p,
    (
      inr (
        at,
        (
          None,
          subst (λ (o : Option ℕ). Under first M (suc i) at (event (option_map process o) None)) (knows first es (process q) at p l)
              (to_under first es i at (end_ok q text) x),
        ),
      ),
      has_process first es j p y,
    ),
  )
  keyed i j t u (replies at q k n text p x l y) = (
    process p,
    (
      inr (
        at,
        (
          None,
          subst (λ (o : Option ℕ). Under first M (suc i) at (event (option_map process o) None)) (knows first es (call k n) at p l)
              (to_under first es i at (reply q k n text) x),
        ),
      ),
      has_process first es j p y,
    ),
  )
  keyed i j t u (throws at p c o x l y) = (
    process o,
    (
      inr (
        at,
        (
          None,
          subst (λ (q : Option ℕ). Under first M (suc i) at (event (option_map process q) None)) (knows first es (catch c) at o l)
              (to_under first es i at (throw p c) x),
        ),
      ),
      has_process first es j o y,
    ),
  )

  then_of : (i j : ℕ) → After first es i j → Then first M i j
  then_of i j a =
      let k = keyed i j a.from a.to a.reason in
      record { from = to_turns first es i a.from; later = a.later; key = k.0; aims = k.1.0; has = k.1.1 }

  of_process : (j q : ℕ) (key : Key) → Some (process q) ≡ Some key → Has first M j key → IsOf first es j q
  of_process j q key e h = let f : key ≡ process q = cc in is_of first es j q (subst (Has first M j) f h)

  of_known : (at : ℕ) (a key : Key) → option_map process (known first es at a) ≡ Some key → (j : ℕ) → Has first M j key
      → (p : ℕ) × ((known first es at a ≡ Some p) × IsOf first es j p)
  of_known at a key e j h =
      let x = mapped process (known first es at a) key e in
      (x.0, (x.1.0, is_of first es j x.0 (subst (Has first M j) x.1.1 h)))

  -- and each such key is a reason
  reason_of : (i j at : ℕ) → first ≤ at → (e : Event) → IsEventOf first es i at e → (key : Key) → aim_of (mark (known first es at) e) ≡ Some key
      → Has first M j key → Reason first es i j
  reason_of i j at low (spawn p q home mode) x key a h = spawns at p q home mode x (of_process j q key a h)
  reason_of i j at low (throw p c) x key a h = let k = of_known at (catch c) key a j h in throws at p c k.0 x (told first es (catch c) at k.0 low k.1.0) k.1.1
  reason_of i j at low (kill c q) x key a h = kills at c q x (of_process j q key a h)
  reason_of i j at low (send p k n) x key a h =
      let f : key ≡ call k n = cc in
      let y = takes_call first es j k n (subst (Has first M j) f h) in
      sends at p k n y.0 y.1.0 x y.1.1
  reason_of i j at low (take q k n) x key a h = takes at q k n x (of_process j q key a h)
  reason_of i j at low (reply q k n text) x key a h = let l = of_known at (call k n) key a j h in replies at q k n text l.0 x (told first es (call k n) at l.0 low l.1.0) l.1.1
  reason_of i j at low (end_ok q text) x key a h = let k = of_known at (process q) key a j h in ends at q text k.0 x (told first es (process q) at k.0 low k.1.0) k.1.1
  reason_of i j at low e x key a h = absurd cc

  after_of : (i j : ℕ) → Then first M i j → After first es i j
  after_of i j t = record {
    from = from_turns first es i t.from;
    to = from_turns first es j t.has.0;
    later = t.later;
    reason = ⊎_elim
        (λ (x : (p : ℕ) × ((n : ℕ) × (IsMark first M i (turned p n) × (t.key ≡ process p)))).
        same x.0 (x.1.0, from_turned first es i x.0 x.1.0 x.1.1.0) (is_of first es j x.0 (subst (Has first M j) x.1.1.1 t.has)))
        (λ (x : AimedAt first M (suc i) t.key).
        let y = from_under first es i x.0 (event (Some t.key) x.1.0) x.1.1 in
        reason_of i j x.0 (line_within first es x.0 y.0 y.1.0.is) y.0 y.1.0 t.key (sym (ap aim_of y.1.1)) t.has)
        t.aims;
  }

  to_chained : (c : List ℕ) → IsChain first es c → Chained first M c
  to_chained [] k = tt
  to_chained (i ∷ []) k = to_turns first es i k
  to_chained (i ∷ j ∷ c) k = (then_of i j k.0, to_chained (j ∷ c) k.1)

  from_chained : (c : List ℕ) → Chained first M c → IsChain first es c
  from_chained [] k = tt
  from_chained (i ∷ []) k = from_turns first es i k
  from_chained (i ∷ j ∷ c) k = (after_of i j k.0, from_chained (j ∷ c) k.1)

  weight_same : (c : List ℕ) → weight_by (λ i. counted (line_at first M i)) c ≡ weight first es c
  weight_same [] = refl
  weight_same (i ∷ c) =
      let a = sum_by-cons (λ (i : ℕ). counted (line_at first M i)) i c in
      let b = sum_by-cons (λ (i : ℕ). ticks_of (line_at first es i)) i c in
      let d = weight_same c in
      let e = counts_same first es i in
      omega (arith, a, b, d, e)

work_back : (known : Key → Option ℕ) (s : ℕ) (m : Mark) (t : Kept) → (back s m t).work ≡ counted (Some m) + t.work
work_back known s (turned p n) t = refl
work_back known s (event aims has) t = omega arith

work_of : (known : Key → Option ℕ) (s : ℕ) (es : List Event) → (walk s (marks known es)).work ≡ sum_by (λ e. ticks_of (Some e)) es
work_of known s [] = refl
work_of known s (e ∷ es) =
    let a = work_back known s (mark known e) (walk (suc s) (marks (learned e known) es)) in
    let b = work_of (learned e known) (suc s) es in
    let c = counted_same known e in
    let d = sum_by-cons (λ (e : Event). ticks_of (Some e)) e es in
    omega (arith, a, b, c, d)

pub is_span : (first : ℕ) (es : List Event) → 1 ≤ first → (t : Kept) → t ≡ walk first (ms first es) → IsSpan first es t.work t.top.weight t.top.chain
is_span first es low t e =
    let h : Holds first (ms first es) first t = subst (Holds first (ms first es) first) (sym e) (walked first (ms first es) first low (ms first es) (λ i l. refl)) in
    record {
      all = ap (λ (k : Kept). k.work) e ∙ work_of (λ k. None) first es;
      chained = from_chained first es t.top.chain (top_chained first (ms first es) t h);
      weighs = sym (weight_same first es t.top.chain) ∙ h.top.best.weighs;
      heaviest = λ c k.
          let w = weight_same first es c in
          ⊎_elim
          (λ (x : weight_by (λ i. counted (line_at first (ms first es) i)) c < t.top.weight). omega (arith, x, w))
          (λ (x : (weight_by (λ i. counted (line_at first (ms first es) i)) c ≡ t.top.weight) × NotAfter t.top.chain c). omega (arith, x.0, w))
          (top_ahead first (ms first es) t h c (to_chained first es c k));
      least = λ c k v.
          let w = weight_same first es c in
          ⊎_elim
          (λ (x : weight_by (λ i. counted (line_at first (ms first es) i)) c < t.top.weight). absurd (omega (arith, x, w, v)))
          (λ (x : (weight_by (λ i. counted (line_at first (ms first es) i)) c ≡ t.top.weight) × NotAfter t.top.chain c). x.1)
          (top_ahead first (ms first es) t h c (to_chained first es c k));
    }

low : (o : Bool) → 1 ≤ (if o then 1 else 2)
low true = omega arith
low false = omega arith

pub right : (j : Journal) → IsSpanOf j (span_of j)
right j = is_span (first_line j) j.events (low (is_none j.head)) (kept j) refl

lists_same : (c d : List ℕ) → NotAfter c d → NotAfter d c → c ≡ d
lists_same [] [] h k = refl
lists_same [] (j ∷ d) h k = absurd k
lists_same (i ∷ c) [] h k = absurd h
lists_same (i ∷ c) (j ∷ d) h k = ⊎_elim
    (λ (x : i < j). ⊎_elim (λ (y : j < i). absurd (omega (arith, x, y))) (λ (y : (j ≡ i) × NotAfter d c). absurd (omega (arith, x, y.0))) k)
    (λ (x : (i ≡ j) × NotAfter c d). ⊎_elim (λ (y : j < i). absurd (omega (arith, x.0, y)))
    (λ (y : (j ≡ i) × NotAfter d c). let a = x.0 in let b = lists_same c d x.1 y.1 in cc) k)
    h

only_numbers : (first : ℕ) (es : List Event) (work work' span span' : ℕ) (c d : List ℕ) → IsSpan first es work span c → IsSpan first es work' span' d
    → (work ≡ work') × ((span ≡ span') × (c ≡ d))
only_numbers first es work work' span span' c d h k =
    let a = h.heaviest d k.chained in
    let b = k.heaviest c h.chained in
    let u = h.weighs in
    let v = k.weighs in
    let e : span ≡ span' = omega (arith, a, b, u, v) in
    (h.all ∙ sym k.all, (e, lists_same c d (h.least d k.chained (v ∙ sym e)) (k.least c h.chained (u ∙ e))))

abbrev span_with : ℕ → ℕ → List ℕ → Span
span_with w n c = record { work = w; span = n; chain = c }

pub only_span : (j : Journal) (s t : Span) → IsSpanOf j s → IsSpanOf j t → s ≡ t
only_span j s t h k =
    let (a, (b, d)) = only_numbers (first_line j) j.events s.work t.work s.span t.span s.chain t.chain h k in
    ap (λ (w : ℕ). span_with w s.span s.chain) a ∙ ap (λ (n : ℕ). span_with t.work n s.chain) b ∙ ap (λ (c : List ℕ). span_with t.work t.span c) d
