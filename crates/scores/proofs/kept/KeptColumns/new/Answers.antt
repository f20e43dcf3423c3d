-- `scores::kept::KeptColumns::new` meets its contract: every slot names a row past the last.
use Rattle.std.proofs.Common.{ℕ, ◌*◌, lit<, arith}
use Rattle.std.proofs.Math.ListN.{length-replicate, get_or-replicate}
use Rattle.limits.specs.Limits.{row_limit}
use Rattle.scores.specs.Clauses.{column_limit}
use Rattle.scores.specs.ColumnLaws.{columns_none}
use Rattle.scores.proofs.kept.KeptColumns.new.Goals as goal

pub returns : goal.returns
returns c =
    λ rows m n most.
    record {
      all = columns_none (length-replicate {A = ℕ} column_limit row_limit) (length-replicate {A = ℕ} (column_limit * row_limit) 0)
          (λ slot l. omega (arith, get_or-replicate {A = ℕ} column_limit slot row_limit 0 l));
      by_row = length-replicate {A = ℕ} row_limit 0;
      next_within = lit< tt;
    }
