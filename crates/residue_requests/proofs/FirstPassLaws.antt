-- Pass 0 in parts: what the classes that are known beforehand do to it, where it can be cut into two, and that it reads nothing where no vector is live.
-- Assumes nothing.
use Prim.Native.Nat.{ℕ, zero, suc, ◌+◌, ◌-◌, ◌*◌, ◌≤◌}
use native.Mathlib.Omega.{arith}
use native.Mathlib.Nat.{mul-suc}
use mathlib.Core.List.{List, [], ◌++◌, append_assoc, append-nil}
use mathlib.Core.Path.{◌≡◌, refl, ap, sym, ◌∙◌}
use Rattle.residue.specs.Content.{Residue}
use Rattle.requests.specs.Requests.{Requests, done, bind}
use Rattle.requests.proofs.Laws.{bind_same, bind-bind}
use Rattle.residue_requests.specs.Requests.{classes_of}
use Rattle.residue_requests.specs.Inner.Unplaced.{flat_class_words, flat_partitions, flat_first_pass, flat_later_passes, flat_residue}

-- how many digits of class words of d digits are not used after so many partitions, where `unused` are not used before them
unfoldable digits_after : ℕ → ℕ → ℕ → ℕ
digits_after d zero unused = unused
digits_after d (suc a) zero = digits_after d a (d - 1)
digits_after d (suc a) (suc unused) = digits_after d a unused

digits_less : (d n a unused : ℕ) → n ≤ unused → digits_after d (n + a) unused ≡ digits_after d a (unused - n)
unfolding digits_after
digits_less d zero a unused h = let z : unused - 0 ≡ unused = omega arith in let y : 0 + a ≡ a = omega arith in rw (z, y) refl
digits_less d (suc n) a zero h = absurd (omega arith)
digits_less d (suc n) a (suc unused) h =
    let z : suc unused - suc n ≡ unused - n = omega arith in
    let y : suc n + a ≡ suc (n + a) = omega arith in
    rw (z, y) (digits_less d n a unused (omega arith))

digits_group : (d a : ℕ) → 1 ≤ d → digits_after d (d + a) 0 ≡ digits_after d a 0
unfolding digits_after
digits_group d a h =
    let y : d + a ≡ suc ((d - 1) + a) = omega arith in
    let z : (d - 1) - (d - 1) ≡ 0 = omega arith in
    rw y (digits_less d (d - 1) a (d - 1) (omega arith) ∙ ap (digits_after d a) z)

digits_groups : (d n : ℕ) → 1 ≤ d → digits_after d (d * n) 0 ≡ 0
unfolding digits_after
digits_groups d zero h = let y : d * 0 ≡ 0 = omega arith in rw y refl
digits_groups d (suc n) h = let y : d * n + d ≡ d + d * n = omega arith in rw (mul-suc d n, y) (digits_group d (d * n) h ∙ digits_groups d n h)

module _ (dimensions_of : ℕ → ℕ) (r : Residue) (live : ℕ) where
  -- a row of partitions, and then z, where z is a tree and what follows it
  row_then : (cs : List ℕ) (z y : Requests (List ℕ)) (g : List ℕ → Requests (List ℕ)) → z ≡ bind y g
      → bind (flat_partitions dimensions_of r 0 cs) (λ _. z) ≡ bind (bind (flat_partitions dimensions_of r 0 cs) (λ _. y)) g
  row_then cs z y g e =
      let x = flat_partitions dimensions_of r 0 cs in
      bind_same x (λ _. z) (λ _. bind y g) (λ _. e) ∙ sym (bind-bind x (λ _. y) g)

  -- class words, and then a row of partitions
  words_then : (cs : List ℕ → List ℕ) (z y : List ℕ → Requests (List ℕ)) (g : List ℕ → Requests (List ℕ)) → ((words : List ℕ) → z words ≡ bind (y words) g)
      → bind (flat_class_words r.classbook live []) (λ words. bind (flat_partitions dimensions_of r 0 (cs words)) (λ _. z words))
      ≡ bind (bind (flat_class_words r.classbook live []) (λ words. bind (flat_partitions dimensions_of r 0 (cs words)) (λ _. y words))) g
  words_then cs z y g e =
      let x = flat_class_words r.classbook live [] in
      let f : List ℕ → Requests (List ℕ) = λ words. bind (flat_partitions dimensions_of r 0 (cs words)) (λ _. y words) in
      bind_same x (λ words. bind (flat_partitions dimensions_of r 0 (cs words)) (λ _. z words)) (λ words. bind (f words) g) (λ words. row_then (cs words) (z words) (y words) g (e words))
      ∙ sym (bind-bind x f g)

  -- THE CLASSES THAT ARE KNOWN BEFOREHAND stand before those that are found
  pub classes_before : (left unused : ℕ) (es acc classes : List ℕ)
      → flat_first_pass dimensions_of r live left unused es (acc ++ classes) ≡ bind (flat_first_pass dimensions_of r live left unused es classes) (λ cs. done (acc ++ cs))
  unfolding flat_first_pass bind
  classes_before zero unused es acc classes = refl
  classes_before (suc left) (suc unused) es acc classes =
      let cs = classes_of r unused es in
      row_then cs (flat_first_pass dimensions_of r live left unused es ((acc ++ classes) ++ cs)) (flat_first_pass dimensions_of r live left unused es (classes ++ cs)) (λ t. done (acc ++ t))
      (ap (flat_first_pass dimensions_of r live left unused es) (append_assoc acc classes cs) ∙ classes_before left unused es acc (classes ++ cs))
  classes_before (suc left) zero es acc classes =
      let d = dimensions_of r.classbook - 1 in
      words_then (classes_of r d) (λ words. flat_first_pass dimensions_of r live left d words ((acc ++ classes) ++ classes_of r d words))
      (λ words. flat_first_pass dimensions_of r live left d words (classes ++ classes_of r d words)) (λ t. done (acc ++ t))
      (λ words. ap (flat_first_pass dimensions_of r live left d words) (append_assoc acc classes (classes_of r d words)) ∙ classes_before left d words acc (classes ++ classes_of r d words))

  -- with no digit left the class words before do not matter
  no_digit : (left : ℕ) (es classes : List ℕ) → flat_first_pass dimensions_of r live left 0 es classes ≡ flat_first_pass dimensions_of r live left 0 [] classes
  unfolding flat_first_pass
  no_digit zero es classes = refl
  no_digit (suc left) es classes = refl

  -- PASS 0 IN TWO PARTS, where the first ends with a last digit
  in_two : (a b unused : ℕ) (es classes : List ℕ) → digits_after (dimensions_of r.classbook) a unused ≡ 0
      → flat_first_pass dimensions_of r live (a + b) unused es classes ≡ bind (flat_first_pass dimensions_of r live a unused es classes) (λ cs. flat_first_pass dimensions_of r live b 0 [] cs)
  unfolding flat_first_pass bind digits_after
  in_two zero b unused es classes e = let y : 0 + b ≡ b = omega arith in rw (y, e) (no_digit b es classes)
  in_two (suc a) b (suc unused) es classes e =
      let y : suc a + b ≡ suc (a + b) = omega arith in
      let cs = classes_of r unused es in
      rw y
      (row_then cs (flat_first_pass dimensions_of r live (a + b) unused es (classes ++ cs)) (flat_first_pass dimensions_of r live a unused es (classes ++ cs))
      (λ t. flat_first_pass dimensions_of r live b 0 [] t) (in_two a b unused es (classes ++ cs) e))
  in_two (suc a) b zero es classes e =
      let y : suc a + b ≡ suc (a + b) = omega arith in
      let d = dimensions_of r.classbook - 1 in
      rw y
      (words_then (classes_of r d) (λ words. flat_first_pass dimensions_of r live (a + b) d words (classes ++ classes_of r d words))
      (λ words. flat_first_pass dimensions_of r live a d words (classes ++ classes_of r d words)) (λ t. flat_first_pass dimensions_of r live b 0 [] t)
      (λ words. in_two a b d words (classes ++ classes_of r d words) e))

  -- the partitions of n class words, and then the rest
  pub whole_words : (n b : ℕ) (acc : List ℕ) → 1 ≤ dimensions_of r.classbook
      → flat_first_pass dimensions_of r live (dimensions_of r.classbook * n + b) 0 [] acc
      ≡ bind (flat_first_pass dimensions_of r live (dimensions_of r.classbook * n) 0 [] []) (λ cs. flat_first_pass dimensions_of r live b 0 [] (acc ++ cs))
  unfolding bind
  whole_words n b acc h =
      let a = dimensions_of r.classbook * n in
      let x = flat_first_pass dimensions_of r live a 0 [] [] in
      let e : flat_first_pass dimensions_of r live a 0 [] acc ≡ bind x (λ cs. done (acc ++ cs)) =
      ap (flat_first_pass dimensions_of r live a 0 []) (sym (append-nil acc)) ∙ classes_before a 0 [] acc [] in
      in_two a b 0 [] acc (digits_groups (dimensions_of r.classbook) n h)
      ∙ ap (λ (z : Requests (List ℕ)). bind z (λ cs. flat_first_pass dimensions_of r live b 0 [] cs)) e
      ∙ bind-bind x (λ cs. done (acc ++ cs)) (λ cs. flat_first_pass dimensions_of r live b 0 [] cs)

-- NO LIVE VECTOR: nothing is read
module _ (dimensions_of : ℕ → ℕ) (r : Residue) where
  no_classes : (left unused : ℕ) → flat_first_pass dimensions_of r 0 left unused [] [] ≡ done []
  unfolding flat_first_pass flat_class_words flat_partitions classes_of bind
  no_classes zero unused = refl
  no_classes (suc left) (suc unused) = no_classes left unused
  no_classes (suc left) zero = no_classes left (dimensions_of r.classbook - 1)

  no_passes : (pass n : ℕ) → flat_later_passes dimensions_of r pass n [] ≡ done tt
  unfolding flat_later_passes flat_partitions bind
  no_passes pass zero = refl
  no_passes pass (suc n) = no_passes (suc pass) n

  pub no_vectors : (partitions : ℕ) → flat_residue dimensions_of r 0 partitions ≡ done tt
  unfolding flat_residue bind
  no_vectors partitions = rw (no_classes partitions 0) (no_passes 1 7)
