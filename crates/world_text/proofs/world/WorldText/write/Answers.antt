use Rattle.std.proofs.Common.{◌≡◌, ℕ, List, [], ◌∷◌, ◌++◌, map, ap, sym, ◌∙◌, append_assoc, append-nil}
use Rattle.std.specs.List.{flat_map}
use Rattle.std.proofs.lemmas.Grind.{flat_map-append}
use Rattle.std.proofs.lemmas.List.Folds.{flat_map-map}
use Rattle.fs_path.specs.declared.words.LineWord.{LineWord}
use Rattle.world_text.specs.declared.format.Format.TheVariants.{Two}
use Rattle.world_text.specs.Reading.{read_text}
use Rattle.world_text.proofs.WrittenRoundTrip.{written_round_trip}
use Rattle.world_text.specs.Written.{line_of, head_words, object_words, process_words, script_words, text_of_world}
use Rattle.world_text.proofs.world.WorldText.write.Goals as goal

-- the lines of four parts
parts : {O P : Type 0} (head : List (List LineWord)) (f : O → List LineWord) (os : List O) (g : P → List LineWord) (ps : List P) (end : List LineWord)
    → flat_map line_of (head ++ (map f os ++ (map g ps ++ end ∷ []))) ≡ flat_map line_of head ++ (flat_map (λ o. line_of (f o)) os ++ (flat_map (λ p. line_of (g p)) ps ++ line_of end))
parts head f os g ps end =
    flat_map-append line_of head (map f os ++ (map g ps ++ end ∷ [])) ∙ ap (λ t. flat_map line_of head ++ t) (
    flat_map-append line_of (map f os) (map g ps ++ end ∷ []) ∙ (λ i. flat_map-map line_of f os i ++ (flat_map-append line_of (map g ps) (end ∷ []) ∙ (λ j. flat_map-map line_of g ps j ++ append-nil (line_of end) j)) i))

gathered : (a b d : List ℕ) (head objects procs end : List ℕ) → a ≡ [] → b ≡ a ++ head → d ≡ b ++ (objects ++ procs) → (d ++ end) ≡ head ++ (objects ++ (procs ++ end))
gathered a b d head objects procs end s1 s2 s3 = rw (s3, s2, s1) (simp append_assoc)

pub returns-clause-text : goal.returns-clause-text
unfolding line_of text_of_world
returns-clause-text c =
    let lines = rw (c.items.ensures, c.items-2.ensures) at c.in_ok-put_objects_and_processes.ensures.text in
    c.into_text.ensures ∙ c.in_ok-bytes.ensures ∙ gathered _ _ _ _ _ _ _ c.in_ok-line.ensures c.in_ok-put_head.ensures lines
    ∙ sym (parts (head_words Two c.args.self.now.policy c.args.self.now.world.bound) (object_words c.args.self.now.policy) c.args.self.now.world.objects (process_words c.args.self.now.policy) c.args.self.now.world.procs script_words)

pub returns-clause-round_trip : goal.returns-clause-round_trip
returns-clause-round_trip c = λ is short.
    ap (read_text Two) (returns-clause-text c)
    ∙ written_round_trip c.args.self.now (record {
      is = is;
      lines = short;
      policy = c.levels-names.ensures.policy;
      objects = rw c.items.ensures at c.in_ok-put_objects_and_processes.ensures.objects_in_range;
      procs = rw c.items-2.ensures at c.in_ok-put_objects_and_processes.ensures.processes_in_range;
    })
