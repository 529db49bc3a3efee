mod Used
