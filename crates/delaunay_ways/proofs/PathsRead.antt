-- Reading a path from the steps of a search.
-- Notions: IsRead; read_begins, read_goes_on, read_ends.
use Rattle.std.proofs.Common.{◌≡◌, ◌+◌, [], ◌∷◌, ◌++◌, ◌∙◌, ℕ, Bool, List}
use Rattle.std.proofs.Common.{sym, subst, arith, ap, refl, inl, inr, zero, suc}
use Rattle.std.specs.Prelude.{Contains}
use Rattle.std.proofs.lemmas.List.{append_assoc}
use Rattle.std.proofs.lemmas.List.Elements.{Contains-append_cases}
use Rattle.plane.specs.{IsVertex, Triangulation}
use Rattle.plane_theorems.specs.Ways.Links.{BeginsIn, IsPath}
use Rattle.delaunay_ways.specs.{AreSteps, IsStep}
use Rattle.delaunay_ways.specs.{declared.reading.Step.Step, Steps.LeadsOver, Steps.step_at}

-- the only element of a list
pub only_one : {X : Type 0} (P : X → Type 0) (x y : X) → Contains (x ∷ []) y → P x → P y
only_one P x y (zero, w, e) h = subst P e h
only_one P x y (suc k, w, e) h = absurd (omega (arith, w))

module _ (t : Triangulation) (free : ℕ → Bool) (first last : List ℕ) (steps : List Step) where
  -- these vertices were read, to that of a step
  pub record IsRead (vs : List ℕ) (v before : ℕ) : Type 0 where
    pub begins : BeginsIn first vs
    pub path : (rest : List ℕ) → IsPath t free last (v ∷ rest) → IsPath t free last (vs ++ rest)
    pub exist : (w : ℕ) → Contains vs w → IsVertex t w
    pub step : IsStep t free last steps v before

  pub read_begins : (v before : ℕ) (vs : List ℕ) → vs ≡ v ∷ [] → Contains first v
      → IsStep t free last steps v before → IsRead vs v before
  read_begins v before vs e is step = record {
    begins = subst (BeginsIn first) (sym e) is;
    path = λ rest h. subst (λ ws. IsPath t free last (ws ++ rest)) (sym e) h;
    exist = λ w c. only_one (IsVertex t) v w (subst (λ ws. Contains ws w) e c) step.exists;
    step = step;
  }

  still_begins : (vs ws : List ℕ) → BeginsIn first vs → BeginsIn first (vs ++ ws)
  still_begins [] ws b = absurd b
  still_begins (v ∷ vs) ws b = b

  pub read_goes_on : (vs ws : List ℕ) (v before k : ℕ) → IsRead vs v before → before ≡ k + 1
      → AreSteps t free last steps → ws ≡ vs ++ (step_at steps k).vertex ∷ []
      → IsRead ws (step_at steps k).vertex (step_at steps k).before
  read_goes_on vs ws v before k r is all e =
      let in_list = r.step.within in
      let next = all k (omega (arith, in_list, is)) in
      let w = (step_at steps k).vertex in
      record {
        begins = subst (BeginsIn first) (sym e) (still_begins vs (w ∷ []) r.begins);
        path = λ rest h. subst (IsPath t free last) (sym (append_assoc vs (w ∷ []) rest)
            ∙ ap (λ (xs : List ℕ). xs ++ rest) (sym e))
            (r.path (w ∷ rest) (r.step.follows k is, h));
        exist = λ u c. elim (Contains-append_cases vs (w ∷ []) u
            (subst (λ xs. Contains xs u) e c)) [
              | inl d ↦ r.exist u d
              | inr d ↦ only_one (IsVertex t) w u d next.exists
            ];
        step = next;
      }

  pub read_ends : (vs : List ℕ) (v before : ℕ) → IsRead vs v before → before ≡ 0
      → LeadsOver t free first last vs
  read_ends vs v before r none = record {
    begins = r.begins;
    path = subst (IsPath t free last) (append_none vs) (r.path [] (r.step.begins none));
    exist = r.exist;
  }
    where
      append_none : (xs : List ℕ) → xs ++ [] ≡ xs
      append_none [] = refl
      append_none (x ∷ xs) = ap (λ (ys : List ℕ). x ∷ ys) (append_none xs)
