-- Each code is that of its program: where the code of each part begins, and where its value is. Lowering is defined as a relation, so
-- for each node of the tree the proof names its piece of code.
use Rattle.std.proofs.Common.{ℕ, [], ◌∷◌, refl}
use Rattle.rgo_wellformed.specs.TypeRules.{int, pointer_to}
use Rattle.rgo_lower.specs.Lowered.{IsLowered, LoweringPoint}
use Rattle.rgo_claim_examples.specs.Programs.{one_object, linked_list, binary_tree, sender, endless, no_object}
use Rattle.rgo_claim_examples.proofs.Codes.{one_object_code, linked_list_code, binary_tree_code, sender_code, endless_code}
use Rattle.rgo_claim_examples.proofs.Codes.{no_object_code}

abbrev point : (instr variable : ℕ) → LoweringPoint
point instr variable = record { instr = instr; variable = variable }

pub one_object_lowered : IsLowered one_object one_object_code
one_object_lowered = record {
  structs = refl;
  variables = refl;
  functions = (
    record {
      name = refl;
      params = refl;
      result_type = refl;
      param_types = refl;
      scope = ((0, 1) ∷ []);
      last = point 4 3;
      body = (
        ((0, 1) ∷ []),
        point 2 2,
        (
          0,
          point 1 1,
          ([], point 0 0, (refl, refl), record { instr = refl; variable = refl }, refl, refl),
          record { instr = refl; variable = refl },
          refl,
          refl,
          refl,
        ),
        (
          ((0, 1) ∷ []),
          point 4 3,
          (
            (2 ∷ []),
            point 3 3,
            (
              2,
              [],
              point 3 3,
              (
                (1 ∷ []),
                point 2 2,
                (1, [], point 2 2, (refl, refl), (refl, refl), refl),
                record { instr = refl; variable = refl },
                refl,
                refl,
              ),
              (refl, refl),
              refl,
            ),
            refl,
            refl,
            refl,
          ),
          (refl, refl),
        ),
      );
      closing = refl;
      instrs = refl;
      variables = refl;
    },
    tt,
  );
}

pub linked_list_lowered : IsLowered linked_list linked_list_code
linked_list_lowered = record {
  structs = refl;
  variables = refl;
  functions = (
    record {
      name = refl;
      params = refl;
      result_type = refl;
      param_types = refl;
      scope = ((2, 9) ∷ (0, 0) ∷ []);
      last = point 26 15;
      body = (
        ((0, 0) ∷ []),
        point 1 1,
        (record { instr = refl; variable = refl }, refl, refl, refl),
        (
          ((0, 0) ∷ []),
          point 14 8,
          (
            ((1, 2) ∷
                (0, 0) ∷ []),
            (
              ((1, 2) ∷ (0, 0) ∷ []),
              point 3 3,
              (
                1,
                point 2 2,
                (
                  [],
                  point 1 1,
                  (refl, refl),
                  record { instr = refl; variable = refl },
                  refl,
                  refl,
                ),
                record { instr = refl; variable = refl },
                refl,
                refl,
                refl,
              ),
              (
                ((1, 2) ∷ (0, 0) ∷ []),
                point 14 8,
                (
                  point 6 5,
                  point 10 6,
                  point 13 8,
                  ((1, 2) ∷ (0, 0) ∷ []),
                  ((1, 2) ∷
                      (0, 0) ∷ []),
                  (
                    4,
                    point 5 5,
                    (
                      (2 ∷ 3 ∷ []),
                      point 4 4,
                      (
                        2,
                        (3 ∷ []),
                        point 3 3,
                        (refl, refl),
                        (
                          3,
                          [],
                          point 4 4,
                          ([], point 3 3, (refl, refl), record { instr = refl; variable = refl }, refl, refl),
                          (refl, refl),
                          refl,
                        ),
                        refl,
                      ),
                      record { instr = refl; variable = refl },
                      refl,
                      refl,
                    ),
                    refl,
                    refl,
                  ),
                  (
                    ((1, 2) ∷ (0, 0) ∷ []),
                    point 10 6,
                    (
                      5,
                      point 9 6,
                      0,
                      (
                        (2 ∷ 0 ∷ []),
                        point 6 5,
                        (
                          2,
                          (0 ∷ []),
                          point 6 5,
                          (refl, refl),
                          (
                            0,
                            [],
                            point 6 5,
                            (refl, refl),
                            (refl, refl),
                            refl,
                          ),
                          refl,
                        ),
                        record { instr = refl; variable = refl },
                        (refl, (refl, refl)),
                        refl,
                      ),
                      refl,
                      refl,
                      refl,
                      refl,
                    ),
                    (refl, refl),
                  ),
                  (
                    ((1, 2) ∷ (0, 0) ∷ []),
                    point 13 8,
                    (
                      7,
                      point 12 8,
                      2,
                      (
                        (2 ∷ 6 ∷ []),
                        point 11 7,
                        (
                          2,
                          (6 ∷ []),
                          point 10 6,
                          (refl, refl),
                          (
                            6,
                            [],
                            point 11 7,
                            (
                              [],
                              point 10 6,
                              (refl, refl),
                              record { instr = refl; variable = refl },
                              refl,
                              refl,
                            ),
                            (refl, refl),
                            refl,
                          ),
                          refl,
                        ),
                        record { instr = refl; variable = refl },
                        refl,
                        refl,
                      ),
                      refl,
                      refl,
                      refl,
                      refl,
                    ),
                    (refl, refl),
                  ),
                  refl,
                  refl,
                  refl,
                ),
                (refl, refl),
              ),
            ),
            refl,
          ),
          (
            ((2, 9) ∷ (0, 0) ∷ []),
            point 16 10,
            (
              8,
              point 15 9,
              (
                [],
                point 14 8,
                (refl, refl),
                record { instr = refl; variable = refl },
                refl,
                refl,
              ),
              record { instr = refl; variable = refl },
              refl,
              refl,
              refl,
            ),
            (
              ((2, 9) ∷ (0, 0) ∷ []),
              point 25 15,
              (
                point 19 12,
                point 24 15,
                point 24 15,
                ((2, 9) ∷ (0, 0) ∷ []),
                ((
                  2,
                  9,
                ) ∷ (0, 0) ∷ []),
                (
                  11,
                  point 18 12,
                  (
                    (10 ∷ []),
                    point 17 11,
                    (
                      10,
                      [],
                      point 17 11,
                      (
                        (0 ∷ []),
                        point 16 10,
                        (
                          0,
                          [],
                          point 16 10,
                          (refl, refl),
                          (refl, refl),
                          refl,
                        ),
                        record { instr = refl; variable = refl },
                        refl,
                        refl,
                      ),
                      (
                        refl,
                        refl,
                      ),
                      refl,
                    ),
                    record { instr = refl; variable = refl },
                    refl,
                    refl,
                  ),
                  refl,
                  refl,
                ),
                (
                  ((2, 9) ∷ (0, 0) ∷ []),
                  point 22 14,
                  (
                    13,
                    point 21 14,
                    9,
                    (
                      (9 ∷ 12 ∷ []),
                      point 20 13,
                      (
                        9,
                        (12 ∷ []),
                        point 19 12,
                        (refl, refl),
                        (
                          12,
                          [],
                          point 20 13,
                          (
                            (0 ∷ []),
                            point 19 12,
                            (0, [], point 19 12, (refl, refl), (refl, refl), refl),
                            record { instr = refl; variable = refl },
                            refl,
                            refl,
                          ),
                          (refl, refl),
                          refl,
                        ),
                        refl,
                      ),
                      record { instr = refl; variable = refl },
                      refl,
                      refl,
                    ),
                    refl,
                    refl,
                    refl,
                    refl,
                  ),
                  (
                    ((2, 9) ∷ (0, 0) ∷ []),
                    point 24 15,
                    (
                      14,
                      point 23 15,
                      0,
                      (
                        (0 ∷ []),
                        point 22 14,
                        (0, [], point 22 14, (refl, refl), (refl, refl), refl),
                        record { instr = refl; variable = refl },
                        refl,
                        refl,
                      ),
                      refl,
                      refl,
                      refl,
                      refl,
                    ),
                    (refl, refl),
                  ),
                ),
                (refl, refl),
                refl,
                refl,
                refl,
              ),
              (
                ((2, 9) ∷ (0, 0) ∷ []),
                point 26 15,
                (
                  (9 ∷ []),
                  point 25 15,
                  (
                    9,
                    [],
                    point 25 15,
                    (
                      refl,
                      refl,
                    ),
                    (refl, refl),
                    refl,
                  ),
                  refl,
                  refl,
                  refl,
                ),
                (refl, refl),
              ),
            ),
          ),
        ),
      );
      closing = refl;
      instrs = refl;
      variables = refl;
    },
    tt,
  );
}

pub binary_tree_lowered : IsLowered binary_tree binary_tree_code
binary_tree_lowered = record {
  structs = refl;
  variables = refl;
  functions = (
    record {
      name = refl;
      params = refl;
      result_type = refl;
      param_types = refl;
      scope = ((0, 0) ∷ []);
      last = point 15 11;
      body = (
        ((0, 0) ∷ []),
        point 5 4,
        (
          point 3 3,
          ((0, 0) ∷ []),
          (
            2,
            point 2 3,
            (
              (0 ∷ 1 ∷ []),
              point 1 2,
              (
                0,
                (1 ∷ []),
                point 0 1,
                (
                  refl,
                  refl,
                ),
                (
                  1,
                  [],
                  point 1 2,
                  ([], point 0 1, (refl, refl), record { instr = refl; variable = refl }, refl, refl),
                  (refl, refl),
                  refl,
                ),
                refl,
              ),
              record { instr = refl; variable = refl },
              refl,
              refl,
            ),
            refl,
            refl,
          ),
          (
            ((0, 0) ∷ []),
            point 5 4,
            (
              3,
              point 4 4,
              pointer_to 0,
              (
                [],
                point 3 3,
                (refl, refl),
                record { instr = refl; variable = refl },
                refl,
                refl,
              ),
              refl,
              refl,
              refl,
              refl,
            ),
            (refl, refl),
          ),
          refl,
        ),
        (
          ((0, 0) ∷ []),
          point 15 11,
          (
            10,
            point 14 11,
            pointer_to 0,
            (
              (6 ∷ 9 ∷ []),
              point 11 10,
              (
                6,
                (9 ∷ []),
                point 8 7,
                (
                  (5 ∷ []),
                  point 7 6,
                  (
                    5,
                    [],
                    point 7 6,
                    (
                      (0 ∷
                          4 ∷ []),
                      point 6 5,
                      (
                        0,
                        (4 ∷ []),
                        point 5 4,
                        (refl, refl),
                        (
                          4,
                          [],
                          point 6 5,
                          (
                            [],
                            point 5 4,
                            (refl, refl),
                            record { instr = refl; variable = refl },
                            refl,
                            refl,
                          ),
                          (refl, refl),
                          refl,
                        ),
                        refl,
                      ),
                      record { instr = refl; variable = refl },
                      refl,
                      refl,
                    ),
                    (refl, refl),
                    refl,
                  ),
                  refl,
                  refl,
                  refl,
                  refl,
                  refl,
                ),
                (
                  9,
                  [],
                  point 11 10,
                  (
                    (8 ∷ []),
                    point 10 9,
                    (
                      8,
                      [],
                      point 10 9,
                      (
                        (0 ∷ 7 ∷ []),
                        point 9 8,
                        (
                          0,
                          (7 ∷ []),
                          point 8 7,
                          (
                            refl,
                            refl,
                          ),
                          (
                            7,
                            [],
                            point 9 8,
                            ([], point 8 7, (refl, refl), record { instr = refl; variable = refl }, refl, refl),
                            (refl, refl),
                            refl,
                          ),
                          refl,
                        ),
                        record { instr = refl; variable = refl },
                        refl,
                        refl,
                      ),
                      (refl, refl),
                      refl,
                    ),
                    refl,
                    refl,
                    refl,
                    refl,
                    refl,
                  ),
                  (refl, refl),
                  refl,
                ),
                refl,
              ),
              record { instr = refl; variable = refl },
              (
                refl,
                (
                  refl,
                  refl,
                ),
              ),
              refl,
            ),
            refl,
            refl,
            refl,
            refl,
          ),
          (refl, refl),
        ),
      );
      closing = refl;
      instrs = refl;
      variables = refl;
    },
    (
      record {
        name = refl;
        params = refl;
        result_type = refl;
        param_types = refl;
        scope = ((0, 0) ∷ []);
        last = point 12 10;
        body = (
          ((0, 0) ∷ []),
          point 4 3,
          (
            point 2 2,
            ((0, 0) ∷ []),
            (
              1,
              point 1 2,
              (
                (0 ∷ []),
                point 0 1,
                (0, [], point 0 1, (refl, refl), (refl, refl), refl),
                record { instr = refl; variable = refl },
                refl,
                refl,
              ),
              refl,
              refl,
            ),
            (
              ((0, 0) ∷ []),
              point 4 3,
              (
                2,
                point 3 3,
                int,
                (
                  [],
                  point 2 2,
                  (refl, refl),
                  record { instr = refl; variable = refl },
                  refl,
                  refl,
                ),
                refl,
                refl,
                refl,
                refl,
              ),
              (refl, refl),
            ),
            refl,
          ),
          (
            ((0, 0) ∷
                []),
            point 12 10,
            (
              9,
              point 11 10,
              int,
              (
                (6 ∷ 8 ∷ []),
                point 10 9,
                (
                  6,
                  (8 ∷ []),
                  point 8 7,
                  (
                    (3 ∷ 5 ∷ []),
                    point 7 6,
                    (
                      3,
                      (5 ∷ []),
                      point 5 4,
                      (
                        [],
                        point 4 3,
                        (refl, refl),
                        record { instr = refl; variable = refl },
                        refl,
                        refl,
                      ),
                      (
                        5,
                        [],
                        point 7 6,
                        (
                          (4 ∷ []),
                          point 6 5,
                          (
                            4,
                            [],
                            point 6 5,
                            (
                              (0 ∷ []),
                              point 5 4,
                              (
                                0,
                                [],
                                point 5 4,
                                (
                                  refl,
                                  refl,
                                ),
                                (refl, refl),
                                refl,
                              ),
                              record { instr = refl; variable = refl },
                              refl,
                              refl,
                            ),
                            (refl, refl),
                            refl,
                          ),
                          refl,
                          refl,
                          refl,
                          refl,
                          refl,
                        ),
                        (refl, refl),
                        refl,
                      ),
                      refl,
                    ),
                    record { instr = refl; variable = refl },
                    refl,
                    refl,
                  ),
                  (
                    8,
                    [],
                    point 10 9,
                    (
                      (7 ∷ []),
                      point 9 8,
                      (
                        7,
                        [],
                        point 9 8,
                        (
                          (0 ∷ []),
                          point 8 7,
                          (
                            0,
                            [],
                            point 8 7,
                            (refl, refl),
                            (refl, refl),
                            refl,
                          ),
                          record { instr = refl; variable = refl },
                          refl,
                          refl,
                        ),
                        (refl, refl),
                        refl,
                      ),
                      refl,
                      refl,
                      refl,
                      refl,
                      refl,
                    ),
                    (refl, refl),
                    refl,
                  ),
                  refl,
                ),
                record { instr = refl; variable = refl },
                refl,
                refl,
              ),
              refl,
              refl,
              refl,
              refl,
            ),
            (refl, refl),
          ),
        );
        closing = refl;
        instrs = refl;
        variables = refl;
      },
      (
        record {
          name = refl;
          params = refl;
          result_type = refl;
          param_types = refl;
          scope = [];
          last = point 4 3;
          body = (
            [],
            point 4 3,
            (
              (2 ∷ []),
              point 3 3,
              (
                2,
                [],
                point 3 3,
                (
                  (1 ∷ []),
                  point 2 2,
                  (
                    1,
                    [],
                    point 2 2,
                    (
                      (0 ∷ []),
                      point 1 1,
                      (
                        0,
                        [],
                        point 1 1,
                        (
                          [],
                          point 0 0,
                          (refl, refl),
                          record { instr = refl; variable = refl },
                          refl,
                          refl,
                        ),
                        (refl, refl),
                        refl,
                      ),
                      refl,
                      refl,
                      refl,
                      refl,
                      refl,
                    ),
                    (refl, refl),
                    refl,
                  ),
                  refl,
                  refl,
                  refl,
                  refl,
                  refl,
                ),
                (refl, refl),
                refl,
              ),
              refl,
              refl,
              refl,
            ),
            (refl, refl),
          );
          closing = refl;
          instrs = refl;
          variables = refl;
        },
        tt,
      ),
    ),
  );
}

pub sender_lowered : IsLowered sender sender_code
sender_lowered = record {
  structs = refl;
  variables = refl;
  functions = (
    record {
      name = refl;
      params = refl;
      result_type = refl;
      param_types = refl;
      scope = ((0, 0) ∷ []);
      last = point 2 2;
      body = (
        ((0, 0) ∷ []),
        point 2 2,
        (
          (0 ∷ 1 ∷ []),
          point 1 2,
          (
            0,
            (1 ∷ []),
            point 0 1,
            (refl, refl),
            (
              1,
              [],
              point 1 2,
              (
                [],
                point 0 1,
                (refl, refl),
                record { instr = refl; variable = refl },
                refl,
                refl,
              ),
              (refl, refl),
              refl,
            ),
            refl,
          ),
          refl,
          refl,
          refl,
        ),
        (
          refl,
          refl,
        ),
      );
      closing = refl;
      instrs = refl;
      variables = refl;
    },
    (
      record {
        name = refl;
        params = refl;
        result_type = refl;
        param_types = refl;
        scope = ((0, 2) ∷ []);
        last = point 6 4;
        body = (
          ((0, 2) ∷ []),
          point 3 3,
          (
            1,
            point 2 2,
            (
              (0 ∷ []),
              point 1 1,
              (
                0,
                [],
                point 1 1,
                (
                  [],
                  point 0 0,
                  (refl, refl),
                  record { instr = refl; variable = refl },
                  refl,
                  refl,
                ),
                (refl, refl),
                refl,
              ),
              record { instr = refl; variable = refl },
              refl,
              refl,
            ),
            record { instr = refl; variable = refl },
            refl,
            refl,
            refl,
          ),
          (
            ((0, 2) ∷ []),
            point 4 3,
            (
              (2 ∷ []),
              point 3 3,
              (2, [], point 3 3, (refl, refl), (refl, refl), refl),
              refl,
              refl,
              refl,
              refl,
            ),
            (
              ((0, 2) ∷ []),
              point 6 4,
              (
                (3 ∷ []),
                point 5 4,
                (
                  3,
                  [],
                  point 5 4,
                  (
                    (2 ∷ []),
                    point 4 3,
                    (2, [], point 4 3, (refl, refl), (refl, refl), refl),
                    record { instr = refl; variable = refl },
                    refl,
                    refl,
                  ),
                  (refl, refl),
                  refl,
                ),
                refl,
                refl,
                refl,
              ),
              (refl, refl),
            ),
          ),
        );
        closing = refl;
        instrs = refl;
        variables = refl;
      },
      tt,
    ),
  );
}

pub endless_lowered : IsLowered endless endless_code
endless_lowered = record {
  structs = refl;
  variables = refl;
  functions = (
    record {
      name = refl;
      params = refl;
      result_type = refl;
      param_types = refl;
      scope = [];
      last = point 1 0;
      body = (
        [],
        point 1 0,
        (
          point 0 0,
          point 0 0,
          point 0 0,
          [],
          [],
          refl,
          (refl, refl),
          (refl, refl),
          refl,
          refl,
          refl,
        ),
        (refl, refl),
      );
      closing = refl;
      instrs = refl;
      variables = refl;
    },
    tt,
  );
}

pub no_object_lowered : IsLowered no_object no_object_code
no_object_lowered = record {
  structs = refl;
  variables = refl;
  functions = (
    record {
      name = refl;
      params = refl;
      result_type = refl;
      param_types = refl;
      scope = [];
      last = point 2 1;
      body = (
        [],
        point 2 1,
        (
          (0 ∷ []),
          point 1 1,
          (
            0,
            [],
            point 1 1,
            ([], point 0 0, (refl, refl), record { instr = refl; variable = refl }, refl, refl),
            (
              refl,
              refl,
            ),
            refl,
          ),
          refl,
          refl,
          refl,
        ),
        (refl, refl),
      );
      closing = refl;
      instrs = refl;
      variables = refl;
    },
    tt,
  );
}
