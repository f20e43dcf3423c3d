-- Demand 3: the ball is the tight one, whoever chose the weights.
--     Property, OfBall    what is said of rows, X, M, L and Settled; the same of the figures of a ball
--     OfEvery P           P holds of all weights of sum D, drawings, checks and accepted records
--     every               it does where it holds of weights of sum D and of tight figures
--     RivalHeld           3.1, of X and L
--     RowsHeld            3.2, of X, M and L
--     GapHeld             3.3, of M, L and Settled
--     promise_3_1         RivalHeld of every one of them
--     promise_3_2         RowsHeld of every one of them
--     promise_3_3         GapHeld of every one of them
--     promise_3_4         the moves that a drawing carries are at most L (`MovesHeld`)
-- `a i k` is the coordinate of row i in channel k, rows and channels counted from 0.
use Rattle.std.specs.Prelude.{◌*◌, ◌+◌, ◌-◌, ◌<◌, ◌≤◌, ℕ, ◌≡◌, Bool, true, List, ◌*ℤ◌, ◌-ℤ◌, pos, ℤ}
use Rattle.integers.specs.Sum.{sumℕ}
use Rattle.geometry.proofs.Demand.{floor_below_ball, holds_every_row, reaches_some_row, rival, settled_gap}
use Rattle.geometry.specs.Figures.{largest, largest_squared_distance, scaled_centre, scaled_lower_bound, scaled_squared_distance, scaled_squared_radius, squared_distance, squared_length}
use Rattle.geometry.specs.Move.{settled}
use Rattle.geometry.specs.Places.{centre_of}
use Rattle.geometry.specs.Table.{coordinate}
use Rattle.ball.specs.Clauses.{Tight}
use Rattle.ball.specs.declared.Ball.{Ball}
use Rattle.checking.specs.Check.{checking}
use Rattle.checking.specs.Demand.{checking_tight}
use Rattle.drawing.specs.Demand.{drawing_moves, drawing_tight}
use Rattle.drawing.specs.Draw.{drawing}
use Rattle.channel.specs.Channel.{Types}
use Rattle.channel.specs.ChannelLaws.{SoundTypes}
use Rattle.record_read.specs.Clauses.{record_read}
use Rattle.record_read.specs.ReadLaws.{accepted-read}
use Rattle.record.specs.TripLaws.{accepted_tight}
use Rattle.promises.specs.Moves.{MoveMade, promise_2_3}
use Rattle.refusal.specs.Outcome.{Accepted}

-- ---- of what demand 3 is said

abbrev pub Property : Type 1
Property = (D m n : ℕ) (a : ℕ → ℕ → ℤ) (X : ℕ → ℤ) (M L : ℕ) (is_settled : Bool) → Type 0

-- P of the figures of a ball
abbrev pub OfBall : Property → ℕ → ℕ → ℕ → (ℕ → ℕ → ℤ) → Ball → Type 0
OfBall P D m n a b = P D m n a (centre_of b.scaled_centre) b.scaled_squared_radius b.scaled_lower_bound b.settled

pub record OfEvery (P : Property) : Type 0 where
  -- any rows, any D above 0 and any weights of sum D, apart from how they came about
  pub weights : (D m n : ℕ) (a : ℕ → ℕ → ℤ) (w : ℕ → ℕ) → 0 < D → 0 < m → sumℕ m w ≡ D
      → P D m n a (scaled_centre a w m) (scaled_squared_radius D m n a (scaled_centre a w m)) (scaled_lower_bound D m n a w) (settled D m n a w)
  -- a drawing with any budget
  pub drawings : (D limit : ℕ) (rows : List ℤ) (m n budget : ℕ) → 0 < D → (drawing D limit rows m n budget).outcome ≡ Accepted
      → OfBall P D m n (coordinate rows n) (drawing D limit rows m n budget).ball
  -- any weights that the check accepts
  pub checks : (D limit : ℕ) (rows : List ℤ) (m n : ℕ) (ws : List ℕ) → 0 < D → (checking D limit rows m n ws).outcome ≡ Accepted
      → OfBall P D m n (coordinate rows n) (checking D limit rows m n ws).ball
  -- any record that is accepted against the rows
  pub records : (D limit : ℕ) (types : Types) (rows : List ℤ) (m n : ℕ) (codes text : List ℕ) → 0 < D → SoundTypes types
      → (record_read D limit types rows m n codes text).outcome ≡ Accepted
      → OfBall P D m n (coordinate rows n) (record_read D limit types rows m n codes text).envelope.figures.ball

-- what holds of weights of sum D and of tight figures holds of every one of them
pub every : (P : Property)
    → ((D m n : ℕ) (a : ℕ → ℕ → ℤ) (w : ℕ → ℕ) → 0 < D → 0 < m → sumℕ m w ≡ D
    → P D m n a (scaled_centre a w m) (scaled_squared_radius D m n a (scaled_centre a w m)) (scaled_lower_bound D m n a w) (settled D m n a w))
    → ((D m n : ℕ) (a : ℕ → ℕ → ℤ) (b : Ball) → Tight D m n a b → OfBall P D m n a b) → OfEvery P
every P of-weights of-tight =
    record {
      weights = of-weights;
      drawings = λ D limit rows m n budget positive accepted.
          of-tight D m n (coordinate rows n) (drawing D limit rows m n budget).ball (drawing_tight D limit rows m n budget accepted positive);
      checks = λ D limit rows m n ws positive accepted.
          of-tight D m n (coordinate rows n) (checking D limit rows m n ws).ball (checking_tight D limit rows m n ws accepted positive);
      records = λ D limit types rows m n codes text positive types_sound accepted.
          let read = record_read D limit types rows m n codes text in
          of-tight D m n (coordinate rows n) read.envelope.figures.ball
          (accepted_tight D limit types types_sound rows m n codes text read.envelope (accepted-read D limit types rows m n codes text accepted) positive);
    }

-- ---- 3.1

-- for every rival centre Y/q of squared radius P/q² that holds all rows, D² P is at least q² L + |q X - D Y|²
abbrev pub RivalHeld : Property
RivalHeld D m n a X M L is_settled =
    (Y : ℕ → ℤ) (q P : ℕ) → 0 < q → ((i : ℕ) → i < m → squared_length n (λ k. pos q *ℤ a i k -ℤ Y k) ≤ P)
    → q * q * L + squared_length n (λ k. pos q *ℤ X k -ℤ pos D *ℤ Y k) ≤ D * D * P

pub promise_3_1 : OfEvery RivalHeld
promise_3_1 =
    every RivalHeld
    (λ D m n a w positive some sum Y q P above holds. rival D m n a w positive some sum Y q P (record { some = above; holds = holds }))
    (λ D m n a b tight Y q P above holds. tight.rival_bound Y q P (record { some = above; holds = holds }))

-- ---- 3.2

-- s of every row is at most M, s of some row equals M, and L is at most M
abbrev pub RowsHeld : Property
RowsHeld D m n a X M L is_settled =
    ((i : ℕ) → i < m → scaled_squared_distance D n X (a i) ≤ M) × ((i : ℕ) × (i < m) × (scaled_squared_distance D n X (a i) ≡ M)) × (L ≤ M)

pub promise_3_2 : OfEvery RowsHeld
promise_3_2 =
    every RowsHeld
    (λ D m n a w positive some sum.
    (holds_every_row D m n a w positive some sum, reaches_some_row D m n a w positive some sum, floor_below_ball D m n a w positive some sum))
    (λ D m n a b tight. (tight.every_row, tight.some_row, tight.floor))

-- ---- 3.3

-- where Settled, M - L is at most D times the largest squared distance between two rows; the same row may be taken twice
abbrev pub GapHeld : Property
GapHeld D m n a X M L is_settled = is_settled ≡ true → M - L ≤ D * largest m (λ i. largest m (λ j. squared_distance n (a i) (a j)))

pub promise_3_3 : OfEvery GapHeld
unfolding largest_squared_distance
promise_3_3 = every GapHeld settled_gap (λ D m n a b tight. tight.gap)

-- ---- 3.4

pub record MovesHeld : Type 0 where
  pub moves_most : (D limit : ℕ) (rows : List ℤ) (m n budget : ℕ) → 0 < D → (drawing D limit rows m n budget).outcome ≡ Accepted
      → (drawing D limit rows m n budget).moves ≤ (drawing D limit rows m n budget).ball.scaled_lower_bound
  -- since each move raises L by at least 1
  pub each_move : (D m n : ℕ) (a : ℕ → ℕ → ℤ) (ws : List ℕ) → MoveMade D m n a ws

pub promise_3_4 : MovesHeld
promise_3_4 =
    record {
      moves_most = λ D limit rows m n budget positive accepted. drawing_moves D limit rows m n budget accepted positive;
      each_move = promise_2_3;
    }
