-- Laws of agreement, for any total D, row limit and table of types.
--     all_zero_at, all_zero_by             the weights past m that are 0, place by place
--     same_places_at, same_places_by       the same places, place by place
--     SameBall n ball checked            each test of a ball against a check, as a fact
--     ball_same, same_ball               these tests, as the record
--     ball_refused, ball_ending          a test that does not hold, and the last where the others do
--     Agreed D limit rows m n ball ws    each test of agreement, as a fact
--     agrees_agreed, agreed_agrees       agreement, as the record
--     agrees-refused, agrees_ball        a test that does not hold, and the last where the first does
--     agreed_ball_lem                        the ball that agrees is the check's, past its n places too once these are cleared
--     agrees-cleared                     places past n are not looked at
--     agreed_tight                       demand 3 holds of figures that agree
--     agreed_within                      2.14: they are within their limits, with known codes
--     agreed_length                      there is a weight for each row
--     agreed_weight, agreed_some         each weight is at most D, and some weight is above 0
--     drawn-agrees, checked-agrees       the figures of an accepted drawing and of an accepted check agree with its weights
--     drawn_cleared                      clearing changes nothing in a drawn envelope
use Prim.Native.Nat.{ℕ, zero, suc, ◌+◌, ◌-◌, ◌≤◌, ◌<◌}
use Rattle.std.specs.Prelude.{◌≡◌, Bool, true, false, List, [], ◌∷◌, ◌⊎◌, ℤ, nat_abs, length, take, drop}
use Rattle.std.proofs.Math.Path.{refl, ap, ap₂}
use Rattle.std.proofs.Common.{sym, subst, ◌∙◌, inl, inr, arith, length-take, get_or-drop}
use Rattle.std.proofs.Math.Bool.{◌&&◌}
use Rattle.std.proofs.Math.Decide.{dec_lt}
use borrow.Author.Tests.{eqb-true, eq-eqb}
use Rattle.std.proofs.Math.Dec.{eqb}
use Rattle.std.proofs.Math.ListN.{get_or}
use Rattle.std.proofs.Math.Seq.{get_or-take}
use Rattle.integers.specs.SumLaws.{last_or_below, sumℕ_term, sumℕ_positive}
use Rattle.integers.specs.Tests.{both, refuted, test-same, same_integer, integer_eq, integer_refl, same_flag, flag_eq, flag_refl}
use Rattle.lists.specs.Padded.{padded, padded_first}
use Rattle.refusal.specs.Outcome.{number_of, Accepted}
use Rattle.geometry.specs.Figures.{scaled_centre}
use Rattle.geometry.specs.Table.{coordinate, rows_within}
use Rattle.limits.specs.Limits.{channel_limit, budget_limit}
use Rattle.geometry.specs.Move.{weight_of}
use Rattle.geometry.specs.Places.{centre_list, centre_of, weights_total}
use Rattle.geometry.specs.PlacesLaws.{centre_list_at, centre_list_cong}
use Rattle.geometry.specs.TableLaws.{within_limits}
use Rattle.ball.specs.Ball.{filled_ball, ball_of}
use Rattle.checking.specs.Check.{checking, Checked}
use Rattle.drawing.specs.Draw.{drawing, DrawingOutcome}
use Rattle.checking.specs.CheckLaws.{checking-checked}
use Rattle.ball.specs.Clauses.{Tight}
use Rattle.checking.specs.Demand.{checking_zero, checking-accepted, checking_tight}
use Rattle.drawing.specs.DrawnWeights.{drawing-rest, drawing_checks}
use Rattle.ball.specs.declared.Ball.{Ball}
use Rattle.channel.specs.Channel.{Types, codes_known}
use Rattle.envelope.specs.Figures.{figures_known, figures_of, envelope_of, drawn_envelope}
use Rattle.envelope.specs.FigureLaws.{known-within, figures-known, checked-within}
use Rattle.agreement.specs.Agreement.{all_zero, same_places, ball_agrees, agrees, cleared_ball, cleared, with_centre}

-- ---- weights that are 0, and the same places

zeros-at : (ws : List ℕ) → all_zero ws ≡ true → (i : ℕ) → get_or ws i 0 ≡ 0
unfolding all_zero
zeros-at [] h i = refl
zeros-at (w ∷ ws) h zero = eqb-true w 0 (both (eqb w 0) (all_zero ws) h).0
zeros-at (w ∷ ws) h (suc i) = zeros-at ws (both (eqb w 0) (all_zero ws) h).1 i

zeros_by : (ws : List ℕ) → ((i : ℕ) → get_or ws i 0 ≡ 0) → all_zero ws ≡ true
unfolding all_zero
zeros_by [] h = refl
zeros_by (w ∷ ws) h = ap₂ ◌&&◌ (eq-eqb w 0 (h 0)) (zeros_by ws (λ i. h (suc i)))

module _ (ws : List ℕ) (m : ℕ) where
  pub all_zero_at : all_zero (drop m ws) ≡ true → (i : ℕ) → m ≤ i → get_or ws i 0 ≡ 0
  all_zero_at h i past =
      let e : i ≡ m + (i - m) = omega arith in
      ap (λ j. get_or ws j 0) e ∙ sym (get_or-drop m ws (i - m) 0) ∙ zeros-at (drop m ws) h (i - m)

  pub all_zero_by : ((i : ℕ) → m ≤ i → get_or ws i 0 ≡ 0) → all_zero (drop m ws) ≡ true
  all_zero_by h = zeros_by (drop m ws) (λ i. get_or-drop m ws i 0 ∙ h (m + i) (omega arith))

module _ (k l : List ℤ) where
  pub same_places_at : (c : ℕ) → same_places c k l ≡ true → (j : ℕ) → j < c → centre_of k j ≡ centre_of l j
  unfolding same_places
  same_places_at zero h j b = absurd (omega arith)
  same_places_at (suc c) h j b =
      let parts = both (same_places c k l) (same_integer (centre_of k c) (centre_of l c)) h in
      go (same_places_at c parts.0 j) (integer_eq (centre_of k c) (centre_of l c) parts.1) (last_or_below c j b)
    where
      go : (j < c → centre_of k j ≡ centre_of l j) → centre_of k c ≡ centre_of l c → (j ≡ c) ⊎ (j < c) → centre_of k j ≡ centre_of l j
      go earlier here (inl e) = ap (centre_of k) e ∙ here ∙ ap (centre_of l) (sym e)
      go earlier here (inr b) = earlier b

  pub same_places_by : (c : ℕ) → ((j : ℕ) → j < c → centre_of k j ≡ centre_of l j) → same_places c k l ≡ true
  unfolding same_places
  same_places_by zero h = refl
  same_places_by (suc c) h =
      ap₂ ◌&&◌ (same_places_by c (λ j b. h j (omega arith)))
      (ap (same_integer (centre_of k c)) (sym (h c (omega arith))) ∙ integer_refl (centre_of k c))

-- ---- a ball against a check

pub record SameBall (n : ℕ) (b : Ball) (k : Checked) : Type 0 where
  pub number : number_of k.outcome ≡ 0
  pub places : (j : ℕ) → j < n → centre_of b.scaled_centre j ≡ centre_of k.ball.scaled_centre j
  pub radius : b.scaled_squared_radius ≡ k.ball.scaled_squared_radius
  pub floor : b.scaled_lower_bound ≡ k.ball.scaled_lower_bound
  pub ending : b.settled ≡ k.ball.settled

module _ (n : ℕ) (b : Ball) (k : Checked) where
  pub ball_same : ball_agrees n b k ≡ true → SameBall n b k
  unfolding ball_agrees
  ball_same h =
      let given = k.ball in
      let number = eqb (number_of k.outcome) 0 in
      let places = same_places n b.scaled_centre given.scaled_centre in
      let radius = eqb b.scaled_squared_radius given.scaled_squared_radius in
      let floor = eqb b.scaled_lower_bound given.scaled_lower_bound in
      let ending = same_flag b.settled given.settled in
      let first = both number (places && ((radius && floor) && ending)) h in
      let second = both places ((radius && floor) && ending) first.1 in
      let third = both (radius && floor) ending second.1 in
      let figures = both radius floor third.0 in
      record {
        number = eqb-true (number_of k.outcome) 0 first.0;
        places = same_places_at b.scaled_centre given.scaled_centre n second.0;
        radius = eqb-true b.scaled_squared_radius given.scaled_squared_radius figures.0;
        floor = eqb-true b.scaled_lower_bound given.scaled_lower_bound figures.1;
        ending = flag_eq b.settled given.settled third.1;
      }

  -- where all else agrees, the ending decides
  pub ball_ending : number_of k.outcome ≡ 0 → ((j : ℕ) → j < n → centre_of b.scaled_centre j ≡ centre_of k.ball.scaled_centre j)
      → b.scaled_squared_radius ≡ k.ball.scaled_squared_radius → b.scaled_lower_bound ≡ k.ball.scaled_lower_bound
      → ball_agrees n b k ≡ same_flag b.settled k.ball.settled
  unfolding ball_agrees
  ball_ending number places radius floor =
      let given = k.ball in
      ap₂ ◌&&◌ (eq-eqb (number_of k.outcome) 0 number)
      (ap₂ ◌&&◌ (same_places_by b.scaled_centre given.scaled_centre n places)
      (ap₂ (λ s t. (s && t) && same_flag b.settled given.settled)
      (eq-eqb b.scaled_squared_radius given.scaled_squared_radius radius)
      (eq-eqb b.scaled_lower_bound given.scaled_lower_bound floor)))

  pub same_ball : SameBall n b k → ball_agrees n b k ≡ true
  same_ball s =
      ball_ending s.number s.places s.radius s.floor
      ∙ ap (same_flag b.settled) (sym s.ending) ∙ flag_refl b.settled

  pub ball_refused : (SameBall n b k → ⊥) → false ≡ ball_agrees n b k
  ball_refused h = refuted (ball_agrees n b k) (λ e. h (ball_same e))

-- a ball is its figures
ball_by : (x y : List ℤ) (r s l k : ℕ) (e f : Bool) → x ≡ y → r ≡ s → l ≡ k → e ≡ f
    → filled_ball x r l e ≡ filled_ball y s k f
ball_by x y r s l k e f p q u v = cc

-- ---- agreement

pub record Agreed (D limit : ℕ) (rows : List ℤ) (m n : ℕ) (b : Ball) (ws : List ℕ) : Type 0 where
  pub accepted : (checking D limit rows m n (take m ws)).outcome ≡ Accepted
  pub places : (k : ℕ) → k < n
      → centre_of b.scaled_centre k ≡ centre_of (checking D limit rows m n (take m ws)).ball.scaled_centre k
  pub radius : b.scaled_squared_radius ≡ (checking D limit rows m n (take m ws)).ball.scaled_squared_radius
  pub floor : b.scaled_lower_bound ≡ (checking D limit rows m n (take m ws)).ball.scaled_lower_bound
  pub ending : b.settled ≡ (checking D limit rows m n (take m ws)).ball.settled
  pub rest : (i : ℕ) → m ≤ i → get_or ws i 0 ≡ 0

module _ (D limit : ℕ) (rows : List ℤ) (m n : ℕ) where
  module _ (b : Ball) (ws : List ℕ) where
    -- the check of the weights of the m rows
    abbrev checked : Checked
    checked = checking D limit rows m n (take m ws)

    pub agrees_agreed : agrees D limit rows m n b ws ≡ true → Agreed D limit rows m n b ws
    unfolding agrees
    agrees_agreed h =
        let parts = both (all_zero (drop m ws)) (ball_agrees n b checked) h in
        let same = ball_same n b checked parts.1 in
        record {
          accepted = checking_zero D limit rows m n (take m ws) same.number;
          places = same.places;
          radius = same.radius;
          floor = same.floor;
          ending = same.ending;
          rest = all_zero_at ws m parts.0;
        }

    -- where no weight stands past the m rows, the check decides
    pub agrees_ball : all_zero (drop m ws) ≡ true → agrees D limit rows m n b ws ≡ ball_agrees n b checked
    unfolding agrees
    agrees_ball h = ap (λ t. t && ball_agrees n b checked) h

    pub agrees-refused : (Agreed D limit rows m n b ws → ⊥) → false ≡ agrees D limit rows m n b ws
    agrees-refused h = refuted (agrees D limit rows m n b ws) (λ e. h (agrees_agreed e))

    module _ (a : Agreed D limit rows m n b ws) where
      pub agreed_agrees : agrees D limit rows m n b ws ≡ true
      agreed_agrees =
          agrees_ball (all_zero_by ws m a.rest)
          ∙ same_ball n b checked
          record {
            number = ap number_of a.accepted;
            places = a.places;
            radius = a.radius;
            floor = a.floor;
            ending = a.ending;
          }

      limits : (rows_within limit rows m n ≡ true) × (length (take m ws) ≡ m) × (weights_total m (take m ws) ≡ D)
      limits = checking-accepted D limit rows m n (take m ws) a.accepted

      channels : n ≤ channel_limit
      channels = (within_limits limit rows m n limits.0).channels

      -- X of the weights, which the check gives in the first n places
      abbrev X : ℕ → ℤ
      X = scaled_centre (coordinate rows n) (weight_of (take m ws)) m

      given : checked.ball.scaled_centre ≡ centre_list n X
      unfolding ball_of
      given =
          ap (λ (k : Checked). k.ball.scaled_centre)
          (checking-checked D limit rows m n (take m ws) limits.0 limits.1 limits.2)

      centres : centre_list n (centre_of b.scaled_centre) ≡ checked.ball.scaled_centre
      centres =
          centre_list_cong n (centre_of b.scaled_centre) X channels
          (λ k l. a.places k l ∙ ap (λ x. centre_of x k) given ∙ centre_list_at n X k channels l)
          ∙ sym given

      pub agreed_ball_lem : cleared_ball n b ≡ (checking D limit rows m n (take m ws)).ball
      agreed_ball_lem = ball_by _ _ _ _ _ _ _ _ centres a.radius a.floor a.ending

      pub agreed_tight : 0 < D → Tight D m n (coordinate rows n) (cleared_ball n b)
      agreed_tight positive =
          subst (Tight D m n (coordinate rows n)) (sym agreed_ball_lem) (checking_tight D limit rows m n (take m ws) a.accepted positive)

      pub agreed_within : 0 < D → (types : Types) (codes : List ℕ) (moves : ℕ) → n ≤ length codes → n ≤ length b.scaled_centre
          → codes_known types (take n codes) ≡ true → moves ≤ budget_limit → figures_known D types (figures_of n codes b moves) ≡ true
      agreed_within positive types codes moves typed places known most =
          let w = known-within D types (figures_of n codes checked.ball moves)
          (checked-within D types n codes typed known positive limit rows m (take m ws) moves a.accepted most) in
          figures-known D types (figures_of n codes b moves)
          record {
            some_channel = w.some_channel;
            channels = w.channels;
            places = places;
            centre_limit = λ k l. omega (arith, ap nat_abs (a.places k l), w.centre_limit k l);
            radius_limit = omega (arith, a.radius, w.radius_limit);
            floor_limit = omega (arith, a.floor, w.floor_limit);
            moves_limit = most;
          }
          record { typed = typed; each_known = known }

      pub agreed_length : m ≤ length ws
      agreed_length = omega (arith, limits.1, length-take m ws)

      pub agreed_weight : (i : ℕ) → get_or ws i 0 ≤ D
      unfolding weights_total
      agreed_weight i = go (dec_lt i m)
        where
          go : Dec (i < m) → get_or ws i 0 ≤ D
          go (yes l) = omega (arith, get_or-take m ws i 0 l, sumℕ_term (weight_of (take m ws)) m i l, limits.2)
          go (no l) = omega (arith, a.rest i (omega arith))

      pub agreed_some : 0 < D → (i : ℕ) × (1 ≤ get_or ws i 0)
      unfolding weights_total
      agreed_some positive =
          let some = sumℕ_positive (weight_of (take m ws)) m (omega (arith, limits.2)) in
          (some.0, omega (arith, get_or-take m ws some.0 0 some.1, some.2))

  module _ (b : Ball) (ws : List ℕ) where
    -- only the first n places of X are looked at
    other_centre : (x y : List ℤ) → ((k : ℕ) → k < n → centre_of y k ≡ centre_of x k) → Agreed D limit rows m n (with_centre b x) ws
        → agrees D limit rows m n (with_centre b y) ws ≡ true
    other_centre x y same a =
        agreed_agrees (with_centre b y) ws
        record {
          accepted = a.accepted;
          places = λ k l. same k l ∙ a.places k l;
          radius = a.radius;
          floor = a.floor;
          ending = a.ending;
          rest = a.rest;
        }

    pub agrees-cleared : n ≤ channel_limit → agrees D limit rows m n (cleared_ball n b) ws ≡ agrees D limit rows m n b ws
    agrees-cleared most =
        let x = b.scaled_centre in
        let first = centre_list n (centre_of x) in
        test-same (agrees D limit rows m n (cleared_ball n b) ws) (agrees D limit rows m n b ws)
        (λ h. other_centre first x (λ k l. sym (centre_list_at n (centre_of x) k most l)) (agrees_agreed (cleared_ball n b) ws h))
        (λ h. other_centre x first (λ k l. centre_list_at n (centre_of x) k most l) (agrees_agreed b ws h))

  -- ---- the figures that are handed out

  -- an accepted check of the weights of the m rows gives a ball that agrees
  own_ball : (ws : List ℕ) → (checking D limit rows m n (take m ws)).outcome ≡ Accepted → ((i : ℕ) → m ≤ i → get_or ws i 0 ≡ 0)
      → Agreed D limit rows m n (checking D limit rows m n (take m ws)).ball ws
  own_ball ws accepted rest =
      record { accepted = accepted; places = λ k l. refl; radius = refl; floor = refl; ending = refl; rest = rest }

  module _ (positive : 0 < D) (budget : ℕ) (accepted : (drawing D limit rows m n budget).outcome ≡ Accepted) where
    abbrev r : DrawingOutcome
    r = drawing D limit rows m n budget

    checks : checking D limit rows m n (take m r.weights) ≡ record { outcome = Accepted; ball = r.ball }
    checks = drawing_checks D limit rows m n budget accepted positive

    drawn_agreed : Agreed D limit rows m n r.ball r.weights
    drawn_agreed =
        subst (λ (c : Ball). Agreed D limit rows m n c r.weights) (ap (λ (k : Checked). k.ball) checks)
        (own_ball r.weights (ap (λ (k : Checked). k.outcome) checks) (drawing-rest D limit rows m n budget accepted))

    pub drawn-agrees : agrees D limit rows m n (drawing D limit rows m n budget).ball (drawing D limit rows m n budget).weights ≡ true
    drawn-agrees = agreed_agrees r.ball r.weights drawn_agreed

    pub drawn_cleared : (codes : List ℕ) → length codes ≡ n
        → let e = drawn_envelope n (padded channel_limit codes) (drawing D limit rows m n budget) in cleared e ≡ e
    drawn_cleared codes typed =
        ap₂ (λ (l : List ℕ) (c : Ball). envelope_of (figures_of n l c r.moves) r.weights)
        (ap (padded channel_limit) (padded_first channel_limit n codes typed (channels r.ball r.weights drawn_agreed)))
        (agreed_ball_lem r.ball r.weights drawn_agreed ∙ ap (λ (k : Checked). k.ball) checks)

  pub checked-agrees : (ws : List ℕ) → (checking D limit rows m n ws).outcome ≡ Accepted → (ws' : List ℕ) → take m ws' ≡ ws
      → all_zero (drop m ws') ≡ true → agrees D limit rows m n (checking D limit rows m n ws).ball ws' ≡ true
  checked-agrees ws accepted ws' first past =
      subst (λ (l : List ℕ). agrees D limit rows m n (checking D limit rows m n l).ball ws' ≡ true) first
      (agreed_agrees (checking D limit rows m n (take m ws')).ball ws'
      (own_ball ws' (ap (λ (l : List ℕ). (checking D limit rows m n l).outcome) first ∙ accepted) (all_zero_at ws' m past)))
