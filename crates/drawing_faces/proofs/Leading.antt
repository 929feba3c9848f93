-- Where segments were led that crossed constraints, and what is connected then.
-- Lemmas: parts_at, pushed, any_made, listed_is_led, led_further, one_more_led.
use Rattle.std.proofs.Common.{◌≡◌, ◌<◌, ◌++◌, [], ◌∷◌, ℕ, List, inl, inr, subst, sym, length, get_or}
use Rattle.std.specs.Prelude.{false, if◌then◌else◌, is_err, is_ok, Result, Ok, Err}
use Rattle.std.specs.Prelude.{ℤ, Option, None, Some, IfSome, All, Contains}
use Rattle.std.proofs.lemmas.List.Elements.{All-push, All-weaker, Contains-get_or}
use Rattle.plane.specs.{Plain}
use Rattle.{delaunay_core.specs.Point2, delaunay_journal.proofs.Connections.one_link}
use Rattle.delaunay_journal.specs.Splits.{AreConnected, IsLink, Splits}
use Rattle.drawing_faces.specs.{AreLed, declared.splits.Lead.Lead, IsAnyPoint}
use Rattle.drawing_faces.specs.Splitting.{GoesBy, IsLed, ListsLead, ListsParts}

-- parts of a segment that stand at two places of a list
pub parts_at : (segments : List (ℕ × ℕ)) (first second : ℕ × ℕ) (i j by : ℕ) (d e : ℕ × ℕ)
    → i < length segments → j < length segments → first ≡ get_or segments i d
    → second ≡ get_or segments j e → first.1 ≡ by → second.0 ≡ by
    → ListsParts segments (first.0, second.1) by
parts_at segments first second i j by d e i_in j_in first_is second_is ends begins = record {
  first = subst (λ v. Contains segments (first.0, v)) ends
      (subst (Contains segments) (sym first_is) (Contains-get_or segments i d i_in));
  second = subst (λ v. Contains segments (v, second.1)) begins
      (subst (Contains segments) (sym second_is) (Contains-get_or segments j e j_in));
}

-- where a push was no error, the entry is there
pub pushed : {T E : Type 0} (r : Result T E) (items before more : List Lead) → is_err r ≡ false
    → items ≡ if◌then◌else◌ (is_ok r) more before → items ≡ more
pushed (Ok t) items before more right are = are
pushed (Err e) items before more right are = absurd (cc)

-- new vertices that were made so are points
pub any_made : (IsMade : Point2 ℤ → Type 0) (old new : Plain (Point2 ℤ))
    (before after : List (ℕ × ℕ)) → Splits IsMade old new before after
    → Splits IsAnyPoint old new before after
any_made IsMade old new before after splits = record {
  made = splits.made;
  vertices = splits.vertices;
  all_made = All-weaker IsMade IsAnyPoint (λ v h. tt) splits.made splits.all_made;
  connects = splits.connects;
}

-- parts in a list are links
parts_go : (constraints segments : List (ℕ × ℕ)) (ends : ℕ × ℕ) (by : ℕ)
    → ListsParts segments ends by → GoesBy constraints segments ends by
parts_go constraints segments ends by parts = record {
  first = one_link (IsLink constraints segments) ends.0 by (inr (inl parts.first));
  second = one_link (IsLink constraints segments) by ends.1 (inr (inl parts.second));
}

-- what holds of a pair, if there is one, makes something else hold
over_some : (P Q : ℕ × ℕ → Type 0) → ((e : ℕ × ℕ) → P e → Q e) → (o : Option (ℕ × ℕ))
    → IfSome o P → IfSome o Q
over_some P Q over None h = tt
over_some P Q over (Some e) h = over e h

pub listed_is_led : (constraints segments : List (ℕ × ℕ)) (lead : Lead)
    → ListsLead segments lead → IsLed constraints segments lead
listed_is_led constraints segments lead listed = record {
  ends = parts_go constraints segments lead.ends lead.by listed.ends;
  crossed = over_some (λ e. ListsParts segments e lead.by)
      (λ e. GoesBy constraints segments e lead.by)
      (λ e h. parts_go constraints segments e lead.by h) lead.crossed listed.crossed;
}

-- what is connected stays so, where segments become constraints and split others
module _ {IsMade : Point2 ℤ → Type 0} (old new : Plain (Point2 ℤ))
    (before after : List (ℕ × ℕ)) (splits : Splits IsMade old new before after) where
  go_further : (ends : ℕ × ℕ) (by : ℕ) → GoesBy old.constraints before ends by
      → GoesBy new.constraints after ends by
  go_further ends by goes = record {
    first = splits.connects ends.0 by goes.first;
    second = splits.connects by ends.1 goes.second;
  }

  is_led_further : (lead : Lead) → IsLed old.constraints before lead
      → IsLed new.constraints after lead
  is_led_further lead led = record {
    ends = go_further lead.ends lead.by led.ends;
    crossed = over_some (λ e. GoesBy old.constraints before e lead.by)
        (λ e. GoesBy new.constraints after e lead.by)
        (λ e h. go_further e lead.by h) lead.crossed led.crossed;
  }

  pub led_further : (leads : List Lead) → AreLed old.constraints before leads
      → AreLed new.constraints after leads
  led_further leads led = All-weaker (IsLed old.constraints before)
      (IsLed new.constraints after) is_led_further leads led

-- one more segment was led
pub one_more_led : (constraints segments : List (ℕ × ℕ)) (leads after : List Lead) (lead : Lead)
    → AreLed constraints segments leads → ListsLead segments lead → after ≡ leads ++ lead ∷ []
    → AreLed constraints segments after
one_more_led constraints segments leads after lead led listed is =
    subst (AreLed constraints segments) (sym is)
    (All-push (IsLed constraints segments) leads lead led
    (listed_is_led constraints segments lead listed))
