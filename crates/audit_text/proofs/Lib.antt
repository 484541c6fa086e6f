mod WholeData
