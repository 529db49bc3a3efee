mod Paddings
