-- A value that is passed over is the first of the tokens.
use Rattle.std.proofs.Common.{◌≡◌, ◌∙◌, ℕ, zero, suc, List, [], ◌∷◌, ◌++◌, length, refl, sym, ap, append_assoc}
use Rattle.std.specs.Prelude.{Option, None, Some, ⊤, option_map, option_and_then}
use Rattle.json.specs.Token.{Token, begin_object, end_object, begin_array, end_array, key}
use Rattle.json.specs.Token.{string, number, boolean, null, bad}
use Rattle.json.specs.Json.{Json, Items, Members, Parse, object, array, item, member}
use Rattle.json.specs.Json.{after_end_array, read_key, items, members, value, value_with}
use Rattle.json.specs.Json.{items_step, members_step, parse_map, skip_value}

-- the rest stands behind some of the tokens
abbrev pub IsBehind : List Token → List Token → Type 0
IsBehind rest ts = (passed : List Token) × (ts ≡ passed ++ rest)

-- a part of the grammar leaves what stands behind it
abbrev Ends : {A : Type 0} → Option (A × List Token) → List Token → Type 0
Ends None ts = ⊤
Ends (Some p) ts = IsBehind p.1 ts

abbrev EndsAt : Option (List Token) → List Token → Type 0
EndsAt None ts = ⊤
EndsAt (Some rest) ts = IsBehind rest ts

behind_trans : (a b c : List Token) → IsBehind a b → IsBehind b c → IsBehind a c
behind_trans a b c h k = (
  k.0 ++ h.0,
  k.1 ∙ ap (λ (r : List Token). k.0 ++ r) h.1
      ∙ sym (append_assoc k.0 h.0 a),
)

later : {A : Type 0} (r : Option (A × List Token)) (t : Token) (ts : List Token) → Ends r ts
    → Ends r (t ∷ ts)
later None t ts h = tt
later (Some p) t ts h = (t ∷ h.0, ap (λ (r : List Token). t ∷ r) h.1)

map_ends : {A B : Type 0} (f : A → B) (r : Option (A × List Token)) (ts : List Token)
    → Ends r ts → Ends (parse_map f r) ts
map_ends f None ts h = tt
map_ends f (Some p) ts h = h

onward : {A : Type 0} (r : Option (A × List Token)) (middle ts : List Token) → Ends r middle
    → IsBehind middle ts → Ends r ts
onward None middle ts h k = tt
onward (Some p) middle ts h k = behind_trans p.1 middle ts h k

then_ends : {A B : Type 0} (g : A × List Token → Option (B × List Token))
    (r : Option (A × List Token)) (ts : List Token) → Ends r ts
    → ((p : A × List Token) → Ends (g p) p.1) → Ends (option_and_then g r) ts
then_ends g None ts h k = tt
then_ends g (Some p) ts h k = onward (g p) p.1 ts (k p) h

after_end : (ts : List Token) → EndsAt (after_end_array ts) ts
after_end [] = tt
after_end (begin_object ∷ ts) = tt
after_end (end_object ∷ ts) = tt
after_end (begin_array ∷ ts) = tt
after_end (end_array ∷ ts) = (end_array ∷ [], refl)
after_end (key s ∷ ts) = tt
after_end (string s ∷ ts) = tt
after_end (number s ∷ ts) = tt
after_end (boolean b ∷ ts) = tt
after_end (null ∷ ts) = tt
after_end (bad ∷ ts) = tt

key_ends : (ts : List Token) → Ends (read_key ts) ts
key_ends [] = tt
key_ends (begin_object ∷ ts) = tt
key_ends (end_object ∷ ts) = (end_object ∷ [], refl)
key_ends (begin_array ∷ ts) = tt
key_ends (end_array ∷ ts) = tt
key_ends (key s ∷ ts) = (key s ∷ [], refl)
key_ends (string s ∷ ts) = tt
key_ends (number s ∷ ts) = tt
key_ends (boolean b ∷ ts) = tt
key_ends (null ∷ ts) = tt
key_ends (bad ∷ ts) = tt

item_ends : (v : Parse Json) (more : Parse Items) (ts : List Token) (o : Option (List Token))
    → ((us : List Token) → Ends (v us) us) → ((us : List Token) → Ends (more us) us)
    → EndsAt o ts → Ends (items_step v more ts o) ts
item_ends v more ts (Some rest) hv hm h = h
item_ends v more ts None hv hm h =
    then_ends (λ p. parse_map (item p.0) (more p.1)) (v ts) ts (hv ts)
    (λ p. map_ends (item p.0) (more p.1) p.1 (hm p.1))

items_end : (v : Parse Json) → ((us : List Token) → Ends (v us) us) → (n : ℕ) (ts : List Token)
    → Ends (items v n ts) ts
unfolding items
items_end v hv zero ts = tt
items_end v hv (suc n) ts =
    item_ends v (items v n) ts (after_end_array ts) hv (λ us. items_end v hv n us) (after_end ts)

member_ends : (v : Parse Json) (more : Parse Members) (o : Option (List ℕ)) (ts : List Token)
    → ((us : List Token) → Ends (v us) us) → ((us : List Token) → Ends (more us) us)
    → Ends (members_step v more o ts) ts
member_ends v more None ts hv hm = ([], refl)
member_ends v more (Some k) ts hv hm =
    then_ends (λ p. parse_map (member k p.0) (more p.1)) (v ts) ts (hv ts)
    (λ p. map_ends (member k p.0) (more p.1) p.1 (hm p.1))

members_end : (v : Parse Json) → ((us : List Token) → Ends (v us) us) → (n : ℕ)
    (ts : List Token) → Ends (members v n ts) ts
unfolding members
members_end v hv zero ts = tt
members_end v hv (suc n) ts =
    then_ends (λ p. members_step v (members v n) p.0 p.1) (read_key ts) ts (key_ends ts)
    (λ p. member_ends v (members v n) p.0 p.1 hv (λ us. members_end v hv n us))

value_ends : (a : Parse Items) (o : Parse Members) → ((us : List Token) → Ends (a us) us)
    → ((us : List Token) → Ends (o us) us) → (ts : List Token) → Ends (value_with a o ts) ts
value_ends a o ha ho [] = tt
value_ends a o ha ho (begin_object ∷ ts) =
    map_ends object (o ts) (begin_object ∷ ts) (later (o ts) begin_object ts (ho ts))
value_ends a o ha ho (end_object ∷ ts) = tt
value_ends a o ha ho (begin_array ∷ ts) =
    map_ends array (a ts) (begin_array ∷ ts) (later (a ts) begin_array ts (ha ts))
value_ends a o ha ho (end_array ∷ ts) = tt
value_ends a o ha ho (key s ∷ ts) = tt
value_ends a o ha ho (string s ∷ ts) = (string s ∷ [], refl)
value_ends a o ha ho (number s ∷ ts) = (number s ∷ [], refl)
value_ends a o ha ho (boolean b ∷ ts) = (boolean b ∷ [], refl)
value_ends a o ha ho (null ∷ ts) = (null ∷ [], refl)
value_ends a o ha ho (bad ∷ ts) = tt

value_end : (depth : ℕ) (ts : List Token) → Ends (value depth ts) ts
unfolding value
value_end zero ts = value_ends (λ us. None) (λ us. None) (λ us. tt) (λ us. tt) ts
value_end (suc depth) ts = value_ends (λ us. items (value depth) (length us) us)
    (λ us. members (value depth) (length us) us)
    (λ us. items_end (value depth) (value_end depth) (length us) us)
    (λ us. members_end (value depth) (value_end depth) (length us) us) ts

skips : (o : Option (Json × List Token)) (ts rest : List Token) → Ends o ts
    → option_map (λ p. p.1) o ≡ Some rest → IsBehind rest ts
skips None ts rest h e = cc
skips (Some p) ts rest h e = let same : p.1 ≡ rest = cc in rw (← same) h

pub skip_is_behind : (depth : ℕ) (ts rest : List Token) → skip_value depth ts ≡ Some rest
    → IsBehind rest ts
skip_is_behind depth ts rest e = skips (value depth ts) ts rest (value_end depth ts) e
