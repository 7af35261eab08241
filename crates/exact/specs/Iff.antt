-- One holds exactly when the other does.
-- Assumes nothing.

pub record Iff (A B : Type 0) : Type 0 where
  pub forth : A → B
  pub back : B → A
