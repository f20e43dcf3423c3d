-- A record as it is read keeps a number that an i64 or a u32 does not hold as the largest that it does. It answers what the record
-- itself does: figures that agree are below that, and a number that was cut is above every limit.
--     Holding D, holding_total     no figure for the total D is cut; so it is for the total that the contracts fix
--     weights-held                 the weights of kept `W` lines are the weights, kept
--     held-answer                  the record as it is read answers what the record does
use Rattle.std.specs.Prelude.{ℕ, zero, suc, ◌-◌, ◌≤◌, ◌<◌, min, ◌≡◌, refl, Bool, true, false, List, [], ◌∷◌, map, ℤ, pos, negsuc, nat_abs, length, get_or, set, replicate}
use Rattle.std.proofs.Common.{sym, ◌∙◌, arith, lit<, ext_get_or}
use Rattle.std.proofs.Math.Path.{ap, ap₂}
use Rattle.std.proofs.Math.Option.{some}
use Rattle.std.proofs.lemmas.List.{length-map}
use Rattle.std.proofs.Math.ListN.{get_or-map}
use Rattle.lists.specs.Padded.{padded, padded-take}
use Rattle.refusal.specs.Number.{disagreement}
use Rattle.refusal.specs.Outcome.{refused, require_some}
use Rattle.limits.specs.Limits.{total, row_limit, channel_limit, centre_limit, distance_limit}
use Rattle.geometry.specs.Places.{centre_list, centre_of}
use Rattle.geometry.specs.PlacesLaws.{centre_list_at, centre_list_cong}
use Rattle.ball.specs.declared.Ball.{Ball}
use Rattle.text.specs.Parts.{same}
use Rattle.text.specs.PartsLaws.{same_eq}
use Rattle.envelope.specs.Figures.{figures_of, envelope_of}
use Rattle.agreement.specs.Agreement.{agrees}
use Rattle.agreement.specs.AgreementLaws.{agrees_agreed, agreed_tight, agreed_weight}
use Rattle.record_lines.specs.Lines.{Weight}
use Rattle.record_form.specs.Record.{Record}
use Rattle.record_form.specs.Weights.{placed_in, weights_of}
use Rattle.record_lines.specs.Clauses.{held_limit, held_weight_limit, held, held_weight}
use Rattle.record_lines.specs.ContractLaws.{held_size, held_same, held-negative}
use Rattle.record_form.specs.Clauses.{held_weights, held_record, stated_record}
use Rattle.ball.specs.Ball.{filled_ball}
use Rattle.record_read.specs.Clauses.{not_read, stated_ball, stated_envelope, agreed_ball, ball_answer, stated_answer, EnvelopeRead}
use Rattle.record_read.specs.ReadLaws.{accepting, sound_answer}

-- ---- numbers

pub record Holding (D : ℕ) : Type 0 where
  pub positive : 0 < D
  pub centre_below : centre_limit D < held_limit
  pub distance_below : distance_limit D < held_limit
  pub weight_below : D < held_weight_limit

pub holding_total : Holding total
holding_total = record { positive = lit< tt; centre_below = lit< tt; distance_below = lit< tt; weight_below = lit< tt }

-- ---- weights

map-set : (f : ℕ → ℕ) (l : List ℕ) (i w : ℕ) → map f (set l i w) ≡ set (map f l) i (f w)
map-set f [] i w = refl
map-set f (x ∷ l) zero w = refl
map-set f (x ∷ l) (suc i) w = ap (λ (k : List ℕ). f x ∷ k) (map-set f l i w)

placed_held : (places : List ℕ) (ws : List Weight) → placed_in (map held_weight places) (held_weights ws) ≡ map held_weight (placed_in places ws)
unfolding placed_in held_weights
placed_held places [] = refl
placed_held places (w ∷ ws) =
    ap (λ (l : List ℕ). placed_in l (held_weights ws)) (sym (map-set held_weight places (w.row - 1) w.weight))
    ∙ placed_held (set places (w.row - 1) w.weight) ws

zeros-held : (limit : ℕ) → map held_weight (replicate limit 0) ≡ replicate limit 0
zeros-held zero = refl
zeros-held (suc limit) = ap (λ (l : List ℕ). 0 ∷ l) (zeros-held limit)

pub weights-held : (limit : ℕ) (ws : List Weight) → weights_of limit (held_weights ws) ≡ map held_weight (weights_of limit ws)
unfolding weights_of
weights-held limit ws = ap (λ (l : List ℕ). placed_in l (held_weights ws)) (sym (zeros-held limit)) ∙ placed_held (replicate limit 0) ws

-- ---- figures that are not cut

abbrev ball_with : ℕ → List ℤ → ℕ → ℕ → Bool → Ball
ball_with n X M L settled = filled_ball (centre_list n (centre_of X)) M L settled

-- X in its n places, M, L and the weights are within these limits
record Most (n : ℕ) (X : List ℤ) (M L : ℕ) (ws : List ℕ) (centre_most_lem distance_most weight_most_lem : ℕ) : Type 0 where
  centre : (k : ℕ) → k < n → nat_abs (centre_of X k) ≤ centre_most_lem
  radius : M ≤ distance_most
  floor : L ≤ distance_most
  weight : (i : ℕ) → get_or ws i 0 ≤ weight_most_lem

module _ (D limit : ℕ) (rows : List ℤ) (m n : ℕ) (holding : Holding D) (channels : n ≤ channel_limit) (settled : Bool) where
  -- figures that agree are within the limits for the total D
  agrees_most : (X : List ℤ) (M L : ℕ) (ws : List ℕ) → agrees D limit rows m n (ball_with n X M L settled) ws ≡ true
      → Most n X M L ws (centre_limit D) (distance_limit D) D
  agrees_most X M L ws h =
      let agreed = agrees_agreed D limit rows m n (ball_with n X M L settled) ws h in
      let tight = agreed_tight D limit rows m n (ball_with n X M L settled) ws agreed holding.positive in
      record {
        centre = λ k l.
            omega (
              arith,
              ap nat_abs (centre_list_at n (centre_of (centre_list n (centre_of X))) k channels l ∙ centre_list_at n (centre_of X) k channels l),
              tight.centre_limit k,
            );
        radius = tight.radius_limit;
        floor = omega (arith, tight.floor, tight.radius_limit);
        weight = agreed_weight D limit rows m n (ball_with n X M L settled) ws agreed;
      }

  module _ (X : List ℤ) (M L : ℕ) (ws : List ℕ) where
    -- what is kept of the figures
    abbrev kept_ball : Ball
    kept_ball = ball_with n (map held X) (min M held_limit) (min L held_limit) settled

    abbrev Uncut : Type 0
    Uncut = Most n X M L ws (held_limit - 1) (held_limit - 1) (held_weight_limit - 1)

    centre_kept : (k : ℕ) → centre_of (map held X) k ≡ held (centre_of X k)
    centre_kept k = get_or-map held X k (pos 0)

    weight_kept : (i : ℕ) → get_or (map held_weight ws) i 0 ≡ held_weight (get_or ws i 0)
    weight_kept i = get_or-map held_weight ws i 0

    uncut : agrees D limit rows m n (ball_with n X M L settled) ws ≡ true → Uncut
    uncut h =
        let limits = agrees_most X M L ws h in
        record {
          centre = λ k l. omega (arith, limits.centre k l, holding.centre_below);
          radius = omega (arith, limits.radius, holding.distance_below);
          floor = omega (arith, limits.floor, holding.distance_below);
          weight = λ i. omega (arith, limits.weight i, holding.weight_below);
        }

    -- a number that was cut is above every limit
    kept_uncut : agrees D limit rows m n kept_ball (map held_weight ws) ≡ true → Uncut
    kept_uncut h =
        let limits = agrees_most (map held X) (min M held_limit) (min L held_limit) (map held_weight ws) h in
        record {
          centre = λ k l. omega (arith, limits.centre k l, ap nat_abs (centre_kept k), held_size (centre_of X k), holding.centre_below);
          radius = omega (arith, limits.radius, holding.distance_below);
          floor = omega (arith, limits.floor, holding.distance_below);
          weight = λ i. omega (arith, limits.weight i, weight_kept i, holding.weight_below);
        }

    module _ (u : Uncut) where
      ball_same : kept_ball ≡ ball_with n X M L settled
      ball_same =
          let centre = centre_list_cong n (centre_of (map held X)) (centre_of X) channels
          (λ k l. centre_kept k ∙ held_same (centre_of X k) (omega (arith, u.centre k l))) in
          let radius : min M held_limit ≡ M = omega (arith, u.radius) in
          let floor : min L held_limit ≡ L = omega (arith, u.floor) in
          cc

      weights-same : map held_weight ws ≡ ws
      weights-same = ext_get_or 0 (map held_weight ws) ws (length-map ws held_weight) (λ i _. weight_kept i ∙ omega (arith, u.weight i))

    -- what is answered where figures do not agree is all that is answered of kept ones besides
    kept_by : {A : Type 0} (answer : Ball → List ℕ → A) (refusal : A)
        → ((ball : Ball) (weights : List ℕ) → agrees D limit rows m n ball weights ≡ false → answer ball weights ≡ refusal)
        → answer kept_ball (map held_weight ws) ≡ answer (ball_with n X M L settled) ws
    kept_by answer refusal refused =
        go (agrees D limit rows m n kept_ball (map held_weight ws)) (agrees D limit rows m n (ball_with n X M L settled) ws) refl refl
      where
        unchanged : Uncut → answer kept_ball (map held_weight ws) ≡ answer (ball_with n X M L settled) ws
        unchanged u = ap₂ answer (ball_same u) (weights-same u)

        go : (s t : Bool) → agrees D limit rows m n kept_ball (map held_weight ws) ≡ s → agrees D limit rows m n (ball_with n X M L settled) ws ≡ t
            → answer kept_ball (map held_weight ws) ≡ answer (ball_with n X M L settled) ws
        go true t h k = unchanged (kept_uncut h)
        go false true h k = unchanged (uncut k)
        go false false h k = refused kept_ball (map held_weight ws) h ∙ sym (refused (ball_with n X M L settled) ws k)

-- ---- the answer

module _ (D : ℕ) (holding : Holding D) (rows : List ℤ) (m : ℕ) (codes : List ℕ) (r : Record) (channels : length r.codes ≤ channel_limit) where
  -- the answer where n and the tags are these, and with this ball and these weights
  abbrev answer_with : List ℕ → Ball → List ℕ → EnvelopeRead
  answer_with stated ball ws =
      require_some (agreed_ball D row_limit rows m codes stated ws (some ball)) (not_read row_limit (refused disagreement)) (λ ball.
      accepting (envelope_of (figures_of (length r.codes) (padded channel_limit r.codes) ball r.result.moves) ws))

  turned : (ball : Ball) (ws : List ℕ) → agrees D row_limit rows m (length r.codes) ball ws ≡ false
      → answer_with r.codes ball ws ≡ not_read row_limit (refused disagreement)
  turned ball ws h = go (same codes r.codes) refl
    where
      go : (t : Bool) → same codes r.codes ≡ t → answer_with r.codes ball ws ≡ not_read row_limit (refused disagreement)
      go true e = rw (e, ap (λ j. agrees D row_limit rows m j ball ws) (ap length (same_eq codes r.codes e)) ∙ h)
      go false e = rw e

  pub held-answer : stated_answer D row_limit rows m codes (stated_record (held_record r)) ≡ sound_answer D row_limit rows m codes r
  unfolding stated_answer
  held-answer = go r.result.scaled_squared_radius r.result.scaled_lower_bound
    where
      go : (M L : ℤ)
          → ball_answer D row_limit rows m codes (stated_record (held_record r))
          (stated_ball (centre_list (length r.codes) (centre_of (map held r.scaled_centre))) (held M) (held L) r.result.settled)
          ≡ require_some
          (agreed_ball D row_limit rows m codes r.codes (weights_of row_limit r.weights)
          (stated_ball (centre_list (length r.codes) (centre_of r.scaled_centre)) M L r.result.settled))
          (not_read row_limit (refused disagreement)) (λ ball. accepting (stated_envelope row_limit r ball))
      go (pos M) (pos L) =
          ap₂ (λ stated ws. answer_with stated (ball_with (length r.codes) (map held r.scaled_centre) (min M held_limit) (min L held_limit) r.result.settled) ws)
          (padded-take channel_limit r.codes channels) (weights-held row_limit r.weights)
          ∙ kept_by D row_limit rows m (length r.codes) holding channels r.result.settled r.scaled_centre M L (weights_of row_limit r.weights)
          (answer_with r.codes) (not_read row_limit (refused disagreement)) turned
      go (pos M) (negsuc k) =
          ap (λ z. ball_answer D row_limit rows m codes (stated_record (held_record r))
          (stated_ball (centre_list (length r.codes) (centre_of (map held r.scaled_centre))) (held (pos M)) z r.result.settled))
          (held-negative k).1
      go (negsuc k) L =
          ap (λ z. ball_answer D row_limit rows m codes (stated_record (held_record r))
          (stated_ball (centre_list (length r.codes) (centre_of (map held r.scaled_centre))) z (held L) r.result.settled))
          (held-negative k).1
